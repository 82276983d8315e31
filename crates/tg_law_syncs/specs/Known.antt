pub mod Known
pub mod Tails
