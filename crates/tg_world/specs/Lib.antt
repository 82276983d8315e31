pub mod Checks
pub mod Clients
pub mod Kept
pub mod Runs
