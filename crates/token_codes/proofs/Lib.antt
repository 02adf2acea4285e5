pub mod Words
pub mod Others
pub mod Tables
pub mod Ends
