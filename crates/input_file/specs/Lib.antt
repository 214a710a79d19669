pub mod ChoiceFiles
pub mod InputFiles
pub mod inner
