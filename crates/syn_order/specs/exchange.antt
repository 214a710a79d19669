pub mod Steps
pub mod Verdicts
pub mod Shown
pub mod Laws
pub mod Example
