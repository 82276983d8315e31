pub mod Archive
pub mod Worked
pub mod Refuted
