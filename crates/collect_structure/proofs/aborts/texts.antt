pub mod Named
pub mod Listed
pub mod Rooted
pub mod Numbered
