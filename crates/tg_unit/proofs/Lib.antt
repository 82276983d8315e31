pub mod Keys
pub mod Lookups
pub mod Inserts
pub mod Trims
pub mod Bits
pub mod Gaps
pub mod Found
pub mod Same
pub mod Drops
pub mod Puts
mod Positions
mod Lows
