pub mod Laws
pub mod NormalForm
