pub mod Sufficing
pub mod Entering
pub mod Telling
pub mod TellingTx
pub mod TrimsAbove
pub mod Marked
pub mod Moving
pub mod TellingPast
