pub mod Sessions
pub mod Holding
pub mod Whole
pub mod Nodes
