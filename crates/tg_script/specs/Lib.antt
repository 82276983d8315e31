pub mod Parts
pub mod Nodes
pub mod Headers
pub mod Commands
pub mod Lines
