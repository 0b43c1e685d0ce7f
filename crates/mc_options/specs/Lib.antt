pub mod Inside
pub mod LoadOptions
pub mod Options
pub mod ShapeTexts
pub mod Statuses
pub mod Streams
