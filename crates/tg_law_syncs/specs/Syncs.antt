pub mod Syncs
pub mod Scan
