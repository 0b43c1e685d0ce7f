pub mod KeptMoments
pub mod StampedLists
pub mod Taken
pub mod Turned
