pub mod form_scopes
pub mod form_units
pub mod Bodies
pub mod Form
pub mod Legal
