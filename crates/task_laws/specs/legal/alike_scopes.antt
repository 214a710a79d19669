pub mod Alike
pub mod Old
pub mod Laws
