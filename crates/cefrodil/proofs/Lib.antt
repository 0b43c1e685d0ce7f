pub mod Apart
pub mod Behind
pub mod Filling
pub mod Loaded
pub mod Gives
pub mod ManyLookups
pub mod ManyPuts
pub mod Sent
