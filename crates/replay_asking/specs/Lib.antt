pub mod Voice
pub mod Spoken
pub mod Served
pub mod Called
pub mod Looked
pub mod making
pub mod names
