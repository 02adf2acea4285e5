pub mod Over
pub mod Places
pub mod PartViews
pub mod PartLaws
pub mod Operations
