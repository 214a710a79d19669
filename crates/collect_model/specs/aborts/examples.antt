pub mod Trees
pub mod Itself
pub mod Victim
pub mod Refused
pub mod Forms
pub mod FormsText
pub mod Laws
