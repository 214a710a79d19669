pub mod Meeting
pub mod Imitating
pub mod ExampleBodies
pub mod Instance
