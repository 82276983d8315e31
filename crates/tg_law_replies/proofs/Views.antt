pub mod Records
pub mod Plays
pub mod Settled
pub mod Bases
pub mod Saved
pub mod Saves
pub mod Exact
pub mod Judges
