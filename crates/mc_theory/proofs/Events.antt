pub mod ReachedTraces
pub mod Orders
pub mod Bits
pub mod ToldHistories
pub mod Spans
