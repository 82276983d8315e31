pub mod Fits
pub mod Auditing
