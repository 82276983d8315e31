pub mod Feeds
pub mod Lines
pub mod Openings
pub mod Reads
