pub mod Laws
pub mod Single
