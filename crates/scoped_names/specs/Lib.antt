pub mod Meaning
pub mod inner
pub mod name_sets
