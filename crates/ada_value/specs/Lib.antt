pub mod Values
pub mod Variables
pub mod Evaluating
pub mod Texts
pub mod StaticLaw
pub mod inner
pub mod put_text
