pub mod GivenUp
pub mod Records
pub mod Worked
