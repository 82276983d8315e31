pub mod Answered
pub mod Told
pub mod Numbers
pub mod Starts
