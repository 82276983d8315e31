pub mod Answered
pub mod Log
pub mod Runs
