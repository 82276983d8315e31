pub mod Points
pub mod Worked
