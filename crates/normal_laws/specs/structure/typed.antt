pub mod ScopeOf
