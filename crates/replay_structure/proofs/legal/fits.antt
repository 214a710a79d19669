pub mod Reach
pub mod Fitted
pub mod Doubles
pub mod Counted
pub mod Whole
pub mod Carried
