pub mod OptionRows
