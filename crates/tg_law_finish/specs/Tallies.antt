pub mod Tallies
pub mod Settled
pub mod Books
