pub mod Playing
pub mod Fates
