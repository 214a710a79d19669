pub mod Colours
pub mod Literals
pub mod Laws
