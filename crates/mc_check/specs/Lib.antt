pub mod Changes
pub mod Inside
pub mod Wrong
