pub mod Asked
pub mod Normal
