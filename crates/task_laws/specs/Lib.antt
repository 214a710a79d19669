pub mod translation
pub mod invariants
pub mod statements
pub mod legal
pub mod actions
