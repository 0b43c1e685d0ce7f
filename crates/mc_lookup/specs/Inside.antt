pub mod Machine
pub mod Stages
