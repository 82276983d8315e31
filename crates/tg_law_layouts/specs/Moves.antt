pub mod Configs
pub mod After
pub mod Telling
