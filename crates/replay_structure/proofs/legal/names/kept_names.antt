pub mod Known
pub mod Instance
