pub mod Script
pub mod progress
