pub mod Values
pub mod Walks
pub mod Slots
pub mod QuietStates
pub mod Fills
pub mod Renewals
pub mod Removals
pub mod Moves
