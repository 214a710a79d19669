pub mod Joined
pub mod Computing
pub mod Instance
pub mod Few
