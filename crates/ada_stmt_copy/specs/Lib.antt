pub mod expressions
