mod Chains
pub mod DefSpots
mod FewDeclared
pub mod Fewer
pub mod HaveRoom
mod ItemSpaces
pub mod Joined
mod Opens
pub mod Plain
pub mod Parts
mod SomeBytes
mod SpotRoom
mod Tables
pub mod Trees
mod Worked
