pub mod Comings
pub mod Traced
pub mod Joined
pub mod Lengths
