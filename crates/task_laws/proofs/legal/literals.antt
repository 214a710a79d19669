pub mod Apart
pub mod Among
pub mod Named
pub mod Values
pub mod Indices
pub mod Coloured
