pub mod Looks
pub mod OneByOne
pub mod ManyBy
pub mod GroupLoops
pub mod Operations
pub mod Signs
