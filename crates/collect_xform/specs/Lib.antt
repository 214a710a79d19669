pub mod Looking
pub mod recorder
pub mod units
