pub mod Selves
pub mod Language
pub mod Unseen
pub mod Values
pub mod Told
pub mod Bodies
pub mod Joined
