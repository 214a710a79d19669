pub mod Turning
pub mod Reaching
pub mod WholeLine
pub mod Looking
pub mod Keeping
