pub mod Standing
pub mod Taking
pub mod Handing
pub mod Comparing
pub mod Bodies
