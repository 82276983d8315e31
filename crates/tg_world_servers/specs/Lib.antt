pub mod Servers
pub mod Rows
pub mod Kept
pub mod Posts
pub mod Waits
