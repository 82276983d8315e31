pub mod Choices
pub mod Telling
pub mod Spelled
pub mod Lawful
pub mod Opening
pub mod Drafts
