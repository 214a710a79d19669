pub mod Textual
