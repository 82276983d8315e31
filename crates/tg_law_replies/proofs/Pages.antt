mod Formats
pub mod Read
pub mod Old
