pub mod Sequences
pub mod MigrateOutcomes
pub mod RequireOutcomes
pub mod inner
