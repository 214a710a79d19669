pub mod VariantsOutcomes
pub mod ContinueOutcomes
pub mod inner
