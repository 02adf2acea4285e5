pub mod Choosing
pub mod Testing
pub mod Fits
pub mod Words
pub mod Places
