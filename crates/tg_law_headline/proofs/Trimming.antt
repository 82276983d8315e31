pub mod Asked
pub mod Told
pub mod Turns
pub mod Meeting
pub mod Decided
