pub mod waiting
pub mod rules
