pub mod Met
pub mod Laws
