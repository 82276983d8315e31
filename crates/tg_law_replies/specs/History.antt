pub mod Logs
pub mod Worlds
pub mod Loading
pub mod Floors
pub mod Laws
