pub mod Ids
pub mod Fields
pub mod Measures
pub mod CoreLaws
pub mod CoreView
