pub mod Splits
pub mod Read
pub mod Lefts
