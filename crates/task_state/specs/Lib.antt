pub mod Plain
pub mod frames
