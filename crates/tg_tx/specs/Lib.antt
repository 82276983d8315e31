pub mod Faults
pub mod Pendings
