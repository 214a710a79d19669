pub mod Giving
pub mod Lining
pub mod Judged
pub mod Ordered
