pub mod Grounds
pub mod Roots
pub mod Marks
pub mod Resting
