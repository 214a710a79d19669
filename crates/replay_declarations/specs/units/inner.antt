pub mod Steps
pub mod UnderUnits
