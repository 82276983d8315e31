pub mod Exact
pub mod Finds
pub mod Worked
