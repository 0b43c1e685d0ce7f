pub mod Commands
pub mod Lines
pub mod Numbers
pub mod Words
