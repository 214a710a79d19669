pub mod Seats
pub mod Keeping
pub mod Unjoined
pub mod Views
pub mod Always
pub mod Instance
pub mod Bodies
