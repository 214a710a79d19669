pub mod Stack
pub mod Seen
pub mod Moves
pub mod Coming
pub mod inner
