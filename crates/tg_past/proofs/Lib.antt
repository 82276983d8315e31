pub mod Beginning
pub mod Lawful
