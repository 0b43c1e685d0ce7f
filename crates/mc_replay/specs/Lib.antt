pub mod Texts
pub mod Faults
pub mod Replay
pub mod Scripts
pub mod FaultTexts
pub mod Inside
