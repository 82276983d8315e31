pub mod Feeding
pub mod Pieces
pub mod Openings
pub mod Reading
