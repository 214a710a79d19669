pub mod Asked
pub mod Units
pub mod Made
pub mod Bodies
pub mod Static
pub mod Order
