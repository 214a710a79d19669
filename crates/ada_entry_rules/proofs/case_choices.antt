pub mod Choosing
pub mod Covering
