pub mod Loops
pub mod Between
