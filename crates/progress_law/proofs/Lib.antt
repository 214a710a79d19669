-- Cite `Runs` for the laws.
pub mod Proper
pub mod Ending
pub mod Picked
pub mod Listed
pub mod Halting
pub mod Runs
mod Example
