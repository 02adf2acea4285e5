pub mod Fits
pub mod Lists
pub mod NameRows
pub mod References
