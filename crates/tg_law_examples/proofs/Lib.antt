pub mod Bytes
pub mod SevenKinds
pub mod Sameness
pub mod Shown
mod Tables
mod Votes
pub mod First
pub mod Moves
pub mod Farther
mod Corners
mod Stops
mod LateStops
mod DeliveryStops
mod Large
mod Long
mod Judged
mod Random
mod RandomMoves
pub mod PlayingOn
pub mod Fenced
