-- what may stand behind a piece, and pieces of each kind
pub mod Classes
pub mod Pieces
pub mod Literals
pub mod Identifiers
pub mod Symbols
pub mod Lexed
pub mod Told
pub mod NamesAndLiterals
pub mod Expressions
pub mod Phrases
pub mod Productions
pub mod Compounds
pub mod Statements
pub mod Tasks
pub mod Declarations
pub mod Units
pub mod Whole
-- the printed text of trees that are the same
pub mod Alike
