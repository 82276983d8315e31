pub mod Alike
pub mod Begun
pub mod Below
