pub mod Windows
pub mod Scans
pub mod TrueReplies
pub mod Lengths
