pub mod Words
pub mod Lines
pub mod Taken
pub mod Printed
pub mod Texts
pub mod Cause
pub mod Weights
