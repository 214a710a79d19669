pub mod Listed
pub mod Telling
pub mod Rooted
pub mod Numbered
