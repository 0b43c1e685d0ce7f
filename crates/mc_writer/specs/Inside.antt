pub mod Pens
pub mod Turns
pub mod Rounds
