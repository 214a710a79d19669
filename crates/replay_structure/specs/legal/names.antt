pub mod kept_names
pub mod form_names
pub mod form_units
pub mod Laws
pub mod inner
