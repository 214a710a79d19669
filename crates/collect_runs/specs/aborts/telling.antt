pub mod Texts
pub mod Forms
pub mod Meetings
pub mod Laws
