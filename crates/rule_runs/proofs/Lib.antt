pub mod Makings
pub mod Joins
pub mod Runs
pub mod Ranks
