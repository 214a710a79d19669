pub mod AcceptHeads
pub mod Holding
pub mod Worlds
pub mod Example
