pub mod Language
pub mod Text
pub mod Grown
pub mod Form
pub mod Inner
