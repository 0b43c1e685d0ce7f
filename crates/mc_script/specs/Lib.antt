pub mod Lines
pub mod Words
pub mod Numbers
pub mod Commands
pub mod Inside
