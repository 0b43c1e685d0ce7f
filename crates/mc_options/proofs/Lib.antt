pub mod CommandLines
pub mod LoadCommandLines
pub mod ToldLines
