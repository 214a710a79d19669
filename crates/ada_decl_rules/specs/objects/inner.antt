pub mod Initials
pub mod Plans
pub mod Shapes
pub mod Objects
