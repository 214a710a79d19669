pub mod Walking
pub mod Opening
pub mod Returning
