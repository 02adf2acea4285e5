pub mod Order
pub mod Counts
pub mod Before
pub mod Pass
pub mod Rows
