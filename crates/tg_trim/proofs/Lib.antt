pub mod Answers
pub mod Awaiting
pub mod Few
pub mod Started
