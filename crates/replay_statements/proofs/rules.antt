pub mod Alternatives
pub mod Put
pub mod Still
pub mod Voices
pub mod Bodies
