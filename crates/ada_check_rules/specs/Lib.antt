pub mod rules
pub mod scopes
