pub mod control
pub mod ids
pub mod units
