pub mod Starts
pub mod Offers
pub mod Joining
pub mod Controllers
pub mod Imitating
pub mod Asking
