pub mod Steps
pub mod Shown
pub mod Idle
pub mod Tests
