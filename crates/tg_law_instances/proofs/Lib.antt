pub mod Small
pub mod Tests
pub mod StepTests
pub mod Changes
pub mod Same
pub mod Sound
pub mod Readings
pub mod HeadlineSound
pub mod CheckpointSound
pub mod LogSound
pub mod Steps
pub mod PlaySound
pub mod CauseSound
pub mod KeepSound
pub mod RunSound
pub mod FollowSound
pub mod Reaching
pub mod FinishSound
pub mod Refuted
pub mod LogRefuted
pub mod StepRefuted
pub mod FinishRefuted
mod Running
mod Stepping
mod Begun
mod Doctored
mod Changed
mod Reached
mod OldPages
