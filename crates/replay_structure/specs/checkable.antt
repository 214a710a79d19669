pub mod inner
pub mod Prepared
pub mod Laws
