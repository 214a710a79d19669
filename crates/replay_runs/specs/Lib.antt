pub mod script
pub mod translation
pub mod starts
pub mod found
pub mod controls
pub mod same
