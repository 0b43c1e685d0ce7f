pub mod MoveLists
pub mod PathSteps
pub mod PathMoves
pub mod NamedItems
pub mod MadeRoom
pub mod Replacements
