pub mod Alike
pub mod Example
pub mod Laws
pub mod Renamed
pub mod inner
