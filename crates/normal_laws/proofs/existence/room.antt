pub mod Taken
pub mod OneBody
