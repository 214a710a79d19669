pub mod Indices
pub mod Sizes
pub mod Calling
pub mod Placed
pub mod Examples
