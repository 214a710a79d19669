pub mod Bounded
pub mod Objects
pub mod Declared
pub mod Joined
