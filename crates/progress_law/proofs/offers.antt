pub mod Members
pub mod Places
pub mod Texts
pub mod Stated
pub mod Offering
pub mod Keeping
pub mod Whole
pub mod Sequences
