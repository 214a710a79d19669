pub mod Bodies
pub mod Infos
pub mod Whole
