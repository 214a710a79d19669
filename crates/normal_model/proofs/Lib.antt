pub mod WalkLemmas
pub mod VariablesLemmas
pub mod Declared
