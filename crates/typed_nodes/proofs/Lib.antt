pub mod Fitting
pub mod Lists
pub mod Loops
pub mod Made
pub mod References
