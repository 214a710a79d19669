pub mod legal
pub mod scopes
pub mod typed
