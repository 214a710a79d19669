pub mod Modulus
pub mod ModulusLaw
