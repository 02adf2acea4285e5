pub mod Tests
pub mod Counts
pub mod Exchange
pub mod Told
mod Worked
