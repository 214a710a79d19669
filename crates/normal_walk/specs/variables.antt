pub mod inner
pub mod Track
