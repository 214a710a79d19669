pub mod Keeping
pub mod Predefining
pub mod Naming
pub mod Nesting
pub mod Placing
pub mod Inner
pub mod EntryNames
