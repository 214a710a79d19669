pub mod Names
pub mod Numbered
pub mod Starting
pub mod Owners
pub mod Making
pub mod Instance
pub mod Choosing
