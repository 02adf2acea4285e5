pub mod Count
pub mod Sample
