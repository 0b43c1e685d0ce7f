pub mod WriterCalls
pub mod GivenWay
pub mod Evictions
pub mod Inside
