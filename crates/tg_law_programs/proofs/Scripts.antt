pub mod Leading
pub mod Lawful
pub mod Reaching
pub mod Long
