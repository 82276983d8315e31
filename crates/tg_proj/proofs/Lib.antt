pub mod Ranges
pub mod Chains
pub mod Gone
pub mod Allowed
pub mod Following
