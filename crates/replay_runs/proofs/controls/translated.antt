pub mod Tables
pub mod OldBodies
pub mod Bodies
pub mod Objects
pub mod Starting
