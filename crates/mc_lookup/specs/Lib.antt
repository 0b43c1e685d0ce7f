pub mod Rest
pub mod Machine
pub mod Course
pub mod Findings
pub mod Inside
