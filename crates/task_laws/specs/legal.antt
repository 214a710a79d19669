pub mod rewritten_types
pub mod rewritten_values
pub mod sites
pub mod alike_scopes
pub mod asked
pub mod types
pub mod literals
