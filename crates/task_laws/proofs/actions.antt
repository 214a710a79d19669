pub mod Numbers
pub mod Alternatives
pub mod Offering
pub mod Listed
pub mod Seats
pub mod Behind
