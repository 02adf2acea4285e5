pub mod Names
mod Aliased
pub mod Counts
pub mod Read
pub mod Made
pub mod Unmet
pub mod InText
pub mod OfExpansion
pub mod Walks
pub mod Counters
pub mod Resolved
pub mod Bounds
pub mod TakenPlaces
pub mod Visitor
pub mod Cases
mod Worked
