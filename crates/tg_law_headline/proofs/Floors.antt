pub mod Turns
pub mod Tails
pub mod Named
pub mod Sweeping
pub mod Swept
