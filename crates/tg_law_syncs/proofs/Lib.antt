pub mod Each
pub mod Syncs
pub mod Known
pub mod Timely
pub mod Settling
pub mod Finds
pub mod Exact
pub mod Follow
