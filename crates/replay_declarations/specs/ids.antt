pub mod Arranged
pub mod Looking
pub mod Laws
