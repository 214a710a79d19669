pub mod Permits
pub mod Example
pub mod Bodies
