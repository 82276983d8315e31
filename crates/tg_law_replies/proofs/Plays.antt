pub mod Joins
pub mod Parts
pub mod Kept
pub mod Answers
pub mod Saved
pub mod Old
