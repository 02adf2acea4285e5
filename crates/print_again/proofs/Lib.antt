pub mod ValidPrints
