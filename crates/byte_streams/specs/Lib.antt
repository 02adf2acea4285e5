pub mod Limits
pub mod Outside
pub mod Memory
