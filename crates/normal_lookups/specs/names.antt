pub mod inner
pub mod SoFar
