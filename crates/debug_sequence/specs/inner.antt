pub mod Failing
pub mod Gathered
pub mod Joining
pub mod Placing
