pub mod Seats
pub mod Steps
pub mod Starts
