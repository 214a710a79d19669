pub mod Operands
pub mod Knowing
pub mod Bounding
pub mod Expressions
