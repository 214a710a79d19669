pub mod Composing
pub mod Copying
pub mod Greatest
pub mod Numbering
