pub mod Meaning
pub mod Parts
pub mod Bytes
pub mod Headers
pub mod Of
pub mod Words
pub mod Texts
