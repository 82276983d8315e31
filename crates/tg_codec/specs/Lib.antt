pub mod Reading
pub mod Codec
pub mod Bounds
pub mod Whole
pub mod Owing
pub mod Streams
