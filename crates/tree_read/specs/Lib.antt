pub mod Comes
pub mod FieldParts
pub mod Left
pub mod NameParts
pub mod Parts
pub mod Paths
pub mod Plain
pub mod Whole
