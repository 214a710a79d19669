pub mod Orders
pub mod Apart
pub mod Laws
pub mod Refusals
pub mod inner
pub mod exchange
