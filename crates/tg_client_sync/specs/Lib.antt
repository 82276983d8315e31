pub mod Finding
pub mod Syncs
pub mod Walks
