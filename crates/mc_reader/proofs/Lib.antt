pub mod Course
pub mod ManyLookups
pub mod Items
