pub mod Places
pub mod Ways
pub mod Ends
pub mod Takes
pub mod Along
pub mod Reaches
pub mod Machines
pub mod Served
