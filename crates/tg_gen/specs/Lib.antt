pub mod Draws
pub mod Loads
