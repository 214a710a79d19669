pub mod Imitating
pub mod Imitations
pub mod Shown
pub mod Told
