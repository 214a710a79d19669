pub mod SitesOfMembers
pub mod Written
pub mod Decls
