pub mod Acts
pub mod Sessions
pub mod Texts
pub mod Openings
pub mod Steps
pub mod Stages
pub mod Lines
pub mod Replies
