pub mod Marks
pub mod Texts
pub mod Sequences
pub mod Machines
