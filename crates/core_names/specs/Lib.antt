pub mod Names
pub mod Resolving
pub mod ModuleIds
pub mod ResolvedTypes
