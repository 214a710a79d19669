pub mod inner
pub mod store
