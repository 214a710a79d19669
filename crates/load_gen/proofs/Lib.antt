pub mod Ranges
pub mod Texts
pub mod Growing
pub mod TypeRules
pub mod CheckRules
pub mod TaskNumbers
pub mod Placed
pub mod Legal
