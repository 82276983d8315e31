pub mod Kept
pub mod Lawful
pub mod Relations
