pub mod Acts
pub mod Bytes
pub mod Calls
pub mod Faults
pub mod Links
pub mod Memory
pub mod Status
