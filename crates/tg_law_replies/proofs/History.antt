pub mod Members
pub mod Ledger
pub mod Versions
pub mod States
pub mod History
pub mod Cells
pub mod Floors
pub mod Loads
