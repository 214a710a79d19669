pub mod NamingsInOrder
pub mod NamedSoFar
pub mod inner
