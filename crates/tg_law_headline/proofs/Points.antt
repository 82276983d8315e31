pub mod Answered
pub mod Steps
pub mod Snapshots
pub mod Points
pub mod Commits
