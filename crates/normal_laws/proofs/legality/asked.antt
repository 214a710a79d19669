pub mod KnownKinds
pub mod Inner
pub mod Steps
pub mod Tasks
pub mod Asked
pub mod Bodies
pub mod Beside
