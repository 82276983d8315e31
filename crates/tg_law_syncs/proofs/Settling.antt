pub mod Told
pub mod Visiting
pub mod Full
