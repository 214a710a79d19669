pub mod Tasks
pub mod Bodies
pub mod Declared
pub mod Pairs
pub mod Examples
