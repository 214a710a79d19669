pub mod inner
pub mod ReplayOutcomes
