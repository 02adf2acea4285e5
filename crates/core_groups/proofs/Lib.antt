pub mod Joined
pub mod Split
pub mod OfRows
