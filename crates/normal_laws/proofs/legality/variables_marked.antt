pub mod Static
pub mod Subtypes
pub mod Steps
pub mod Scopes
pub mod Bodies
