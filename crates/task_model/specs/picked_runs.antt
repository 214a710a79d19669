pub mod Picked
pub mod Lines
pub mod Outputs
