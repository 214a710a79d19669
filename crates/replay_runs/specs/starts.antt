pub mod Laws
pub mod Formals
pub mod Legal
