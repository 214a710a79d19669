pub mod RunOutcomes
pub mod texts
