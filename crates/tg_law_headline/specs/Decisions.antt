pub mod Decisions
pub mod Forgetting
