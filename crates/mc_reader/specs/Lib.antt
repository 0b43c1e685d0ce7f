pub mod Aims
pub mod Records
pub mod Inside
