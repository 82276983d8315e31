pub mod Words
pub mod Stripes
pub mod Turns
pub mod Copies
pub mod Needs
pub mod Laws
