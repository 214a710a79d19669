pub mod Targets
pub mod EntryDecls
pub mod inner
pub mod case_choices
