pub mod Tables
pub mod Stand
pub mod Built
pub mod InText
pub mod Walks
pub mod Bounds
pub mod Visitor
