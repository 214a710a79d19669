pub mod EntryForms
pub mod Kept
