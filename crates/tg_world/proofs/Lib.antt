mod Moving
mod Rows
mod Whole
mod Counted
mod Moves
mod Turns
mod Turned
mod Telling
mod Replies
mod Events
mod Happening
mod Draining
mod Ticking
mod Rounds
mod Parts
mod Boxed
pub mod Numbering
