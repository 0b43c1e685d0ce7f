pub mod Packed
pub mod Parts
pub mod Progresses
pub mod Seen
pub mod Tables
pub mod Writers
