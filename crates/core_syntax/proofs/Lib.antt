pub mod Folding
pub mod Views
pub mod Turns
mod WorkedRows
