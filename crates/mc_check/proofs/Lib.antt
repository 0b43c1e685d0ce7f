pub mod LastChanges
pub mod SortedMentions
pub mod WrongCounts
