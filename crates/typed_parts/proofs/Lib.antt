pub mod Given
mod LeafFits
mod Leaving
mod Reading
