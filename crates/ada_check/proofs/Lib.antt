pub mod FirstRefusal
pub mod Programs
pub mod Bodies
pub mod Broken
