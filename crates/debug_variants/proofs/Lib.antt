mod Placed
mod Places
mod Verdicts
mod Files
pub mod OneOutcome
