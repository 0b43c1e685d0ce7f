pub mod Seen
pub mod Packed
pub mod Runs
pub mod Inside
