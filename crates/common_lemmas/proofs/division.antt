pub mod ModulusLaws
