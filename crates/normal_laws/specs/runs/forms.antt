pub mod Normalisable
pub mod Choosing
pub mod Laws
