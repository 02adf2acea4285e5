pub mod Buffer
pub mod Kinds
pub mod Status
pub mod Answer
