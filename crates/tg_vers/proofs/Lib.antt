pub mod Order
pub mod Rows
pub mod Lookups
pub mod Placing
pub mod Keeping
pub mod InPlace
pub mod Firsts
