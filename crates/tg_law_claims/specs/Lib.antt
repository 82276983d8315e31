pub mod Playing
pub mod Causes
pub mod Answers
