pub mod Places
pub mod Outcomes
pub mod Mixed
pub mod Tags
pub mod SameTypes
