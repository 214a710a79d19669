pub mod Asking
pub mod Walking
pub mod Naming
pub mod Claiming
pub mod Forming
