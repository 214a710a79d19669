pub mod CutOff
pub mod inner
