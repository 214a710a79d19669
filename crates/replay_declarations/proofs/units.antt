pub mod Placed
pub mod Sorted
pub mod Put
pub mod Steps
pub mod Running
