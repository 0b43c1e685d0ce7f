pub mod Last
pub mod Mentions
