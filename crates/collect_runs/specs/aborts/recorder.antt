pub mod Recorders
pub mod Telling
pub mod States
pub mod Laws
