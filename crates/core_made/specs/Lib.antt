pub mod HasText
