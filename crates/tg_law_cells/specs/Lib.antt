pub mod Cells
pub mod Tokens
pub mod Entries
pub mod Homes
pub mod Order
pub mod Places
