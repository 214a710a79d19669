pub mod Placed
pub mod Typed
pub mod Checked
pub mod Together
