pub mod Code
pub mod Choice
pub mod ItemKinds
