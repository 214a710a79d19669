pub mod Mapped
pub mod Before
pub mod Inner
