pub mod Permits
pub mod Copies
pub mod Scripts
pub mod Plainly
pub mod Rewritings
pub mod Laws
pub mod Told
pub mod inner
