pub mod Unwritten
pub mod FirstLines
pub mod ReadLines
pub mod Lines
pub mod LineWords
pub mod Digits
pub mod NumberLists
pub mod Forms
