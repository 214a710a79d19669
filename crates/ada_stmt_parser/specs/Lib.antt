pub mod Statements
pub mod inner
