pub mod inner
pub mod unit_declarations
