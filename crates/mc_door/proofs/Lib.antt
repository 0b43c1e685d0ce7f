pub mod NewShards
pub mod MoreEntries
pub mod ListedWords
pub mod AnySideLists
pub mod ManyPuts
