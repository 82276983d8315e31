pub mod Tails
pub mod Later
