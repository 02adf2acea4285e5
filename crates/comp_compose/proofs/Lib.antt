pub mod Lookups
pub mod Weighing
pub mod Runs
pub mod Fitting
pub mod Refusals
pub mod Adding
pub mod Going
pub mod Texts
pub mod Digits
pub mod Passing
pub mod Said
mod Worked
