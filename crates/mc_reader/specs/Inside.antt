pub mod Rows
pub mod Course
