pub mod Plays
pub mod Printed
pub mod Rows
pub mod Stores
pub mod Workloads
