pub mod Deeds
pub mod Puts
pub mod Calls
