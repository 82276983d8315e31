pub mod Forgetting
pub mod Playing
pub mod Causes
pub mod Answers
pub mod Whole
