pub mod More
pub mod Form
pub mod Names
