pub mod ScopeOf
pub mod Controller
