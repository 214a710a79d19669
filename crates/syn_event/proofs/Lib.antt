mod CheckExamples
pub mod Nothing
pub mod Kept
pub mod NameTexts
pub mod Weaker
pub mod DeclLists
pub mod Counts
pub mod CheckScopes
