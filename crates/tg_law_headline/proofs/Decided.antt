pub mod Ending
pub mod Later
