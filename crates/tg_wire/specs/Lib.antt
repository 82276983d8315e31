pub mod Answers
pub mod Fields
pub mod Messages
pub mod Packets
pub mod Short
pub mod Rules
pub mod Types
