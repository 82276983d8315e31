pub mod Sorts
pub mod Undecidings
