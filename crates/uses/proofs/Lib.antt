pub mod TakenOut
pub mod OneShard
pub mod Kept
pub mod Touched
pub mod Stamps
pub mod SameEntries
