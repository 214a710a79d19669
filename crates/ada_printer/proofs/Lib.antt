pub mod Formed
pub mod Declared
pub mod Listed
pub mod Rowed
