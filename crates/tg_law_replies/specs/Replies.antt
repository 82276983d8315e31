pub mod Told
pub mod Runs
pub mod Steps
pub mod Ended
pub mod Outcomes
pub mod Found
pub mod Laws
