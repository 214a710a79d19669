pub mod structure
pub mod runs
pub mod existence
pub mod legality
