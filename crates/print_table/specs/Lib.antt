pub mod Tokens
pub mod Lines
pub mod TextOf
pub mod HasText
pub mod Printable
pub mod Depths
