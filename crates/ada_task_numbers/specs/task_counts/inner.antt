pub mod Shares
pub mod Copied
