pub mod LoadOutcomes
pub mod inner
