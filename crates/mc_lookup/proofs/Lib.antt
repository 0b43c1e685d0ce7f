pub mod Prepend
pub mod Split
pub mod StageLaws
pub mod StageSteps
pub mod NextAccess
pub mod Findings
