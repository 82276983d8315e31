pub mod Places
pub mod Next
pub mod Refusals
pub mod Follows
