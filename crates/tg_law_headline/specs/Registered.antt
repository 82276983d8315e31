pub mod Registered
pub mod Marked
pub mod Resting
