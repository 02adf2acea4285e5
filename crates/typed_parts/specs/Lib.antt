pub mod Leaves
pub mod OfShapes
