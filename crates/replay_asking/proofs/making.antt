pub mod Appended
