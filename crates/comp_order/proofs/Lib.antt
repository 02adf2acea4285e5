pub mod Counted
mod Counting
mod Held
mod Outward
mod Parts
mod Passing
mod PlacesPassed
mod Tables
mod Walking
mod Worked
