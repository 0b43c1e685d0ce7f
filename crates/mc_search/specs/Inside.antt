pub mod Readable
pub mod Ready
pub mod Search
pub mod Entries
pub mod Items
