pub mod Drawing
pub mod Counting
