pub mod Moves
pub mod Orders
pub mod Reaching
pub mod Wholes
pub mod Progress
pub mod Holding
