pub mod Scripts
pub mod Long
