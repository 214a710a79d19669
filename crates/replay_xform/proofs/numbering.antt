pub mod Counted
pub mod Spoken
pub mod Owned
