pub mod Takes
pub mod Read
