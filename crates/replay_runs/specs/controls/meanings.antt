pub mod Pairs
pub mod Permits
pub mod Copies
pub mod Laws
pub mod Settings
