pub mod Lists
pub mod Spared
