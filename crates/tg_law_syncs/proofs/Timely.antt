pub mod Standing
pub mod Reading
pub mod Timely
pub mod Walked
