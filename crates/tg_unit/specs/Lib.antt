pub mod Bits
pub mod Segments
pub mod Missing
pub mod Lows
