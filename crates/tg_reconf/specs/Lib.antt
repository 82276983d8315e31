pub mod Words
pub mod States
pub mod Waits
pub mod Turns
pub mod Needs
pub mod Laws
