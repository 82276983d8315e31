pub mod Changes
pub mod Changing
pub mod Ready
pub mod Reconfs
pub mod Scans
pub mod Settled
