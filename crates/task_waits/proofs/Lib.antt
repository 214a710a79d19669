pub mod Opens
pub mod Shares
pub mod Widths
pub mod Standing
pub mod Offering
