pub mod Dealt
pub mod Targets
pub mod Listed
pub mod Taken
pub mod Held
