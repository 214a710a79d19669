pub mod Placeable
