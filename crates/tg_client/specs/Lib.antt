pub mod Kept
pub mod Feeding
