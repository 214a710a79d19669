pub mod Plain
pub mod Latest
pub mod inner
