pub mod Once
pub mod Apart
pub mod Names
pub mod Laws
