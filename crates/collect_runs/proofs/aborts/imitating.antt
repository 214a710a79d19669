pub mod Reaching
pub mod Acting
pub mod Worlds
pub mod Moving
pub mod Parting
pub mod Imitating
