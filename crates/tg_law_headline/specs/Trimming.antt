pub mod Trimming
pub mod Decided
