pub mod Joining
