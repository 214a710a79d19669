pub mod Blocks
pub mod Doubled
pub mod Added
pub mod Legal
pub mod Examples
