pub mod ReadTokens
pub mod Source
pub mod Spelled
