pub mod Telling
pub mod Verdicts
pub mod inner
pub mod declaration_places
