pub mod TokenFirst
