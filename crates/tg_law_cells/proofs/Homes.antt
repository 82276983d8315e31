pub mod Homing
pub mod Homes
pub mod Gones
