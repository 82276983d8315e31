pub mod Lists
pub mod Logged
pub mod Steps
pub mod Archive
pub mod Worked
pub mod Refuted
