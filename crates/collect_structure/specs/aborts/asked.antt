pub mod Pieces
pub mod Recorder
