pub mod Copies
pub mod Items
pub mod Options
pub mod ReferenceLaws
pub mod Spaces
pub mod Tests
