pub mod Invariant
pub mod Lists
pub mod Replies
pub mod Events
