pub mod accepting
pub mod units
pub mod variable_types
pub mod clear_scopes
pub mod Laws
pub mod inner
pub mod room
pub mod statements
