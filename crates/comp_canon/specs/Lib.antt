pub mod LineLaws
pub mod Lines
pub mod Stands
