pub mod Units
pub mod Sequencers
pub mod Worlds
