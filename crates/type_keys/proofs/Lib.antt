pub mod Equal
pub mod First
pub mod Agree
pub mod Search
pub mod Ordered
pub mod Noted
