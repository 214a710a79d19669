pub mod Chosen
pub mod Gathered
pub mod Listed
