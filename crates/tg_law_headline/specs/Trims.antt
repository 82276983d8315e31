pub mod Spare
pub mod Floors
