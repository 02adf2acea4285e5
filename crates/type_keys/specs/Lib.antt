pub mod Keys
pub mod Named
pub mod PartsOf
pub mod Order
pub mod Shown
