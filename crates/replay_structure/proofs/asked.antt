pub mod Kept
pub mod Asking
pub mod Serving
pub mod Calling
pub mod Waiting
pub mod Walk
