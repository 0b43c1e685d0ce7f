pub mod Players
pub mod Steps
pub mod Texts
pub mod Reopenings
