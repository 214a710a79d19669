pub mod Makings
pub mod Entries
pub mod Denotations
pub mod Nested
pub mod Readings
pub mod inner
pub mod values
