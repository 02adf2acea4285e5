pub mod Places
pub mod ByHome
