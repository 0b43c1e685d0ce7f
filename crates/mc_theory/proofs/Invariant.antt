pub mod OtherKeys
pub mod RunningDeed
pub mod PlainParts
pub mod EachAct
pub mod EachState
pub mod VersionSteps
pub mod Limits
