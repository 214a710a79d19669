pub mod Numbered
pub mod Examples
