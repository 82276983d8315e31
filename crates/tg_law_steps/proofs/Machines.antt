pub mod Cells
pub mod Appends
pub mod Syncs
pub mod Walks
pub mod Copies
pub mod Reconfs
pub mod Trims
pub mod Awaited
