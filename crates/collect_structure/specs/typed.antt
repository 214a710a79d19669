pub mod Told
pub mod Recording
