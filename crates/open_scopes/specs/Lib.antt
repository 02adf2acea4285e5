pub mod Numbered
pub mod Refusals
pub mod Registered
pub mod Indexed
pub mod Shown
pub mod Aliases
