pub mod Parts
pub mod Drafts
pub mod Worked
pub mod Refuted
