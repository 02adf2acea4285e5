pub mod Answer
pub mod Leaves
pub mod Named
pub mod Parts
pub mod Rows
pub mod Scopes
