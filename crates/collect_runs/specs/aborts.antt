pub mod recorder
pub mod translation
pub mod telling
pub mod imitating
pub mod starts
pub mod forms
pub mod originals
pub mod likeness
