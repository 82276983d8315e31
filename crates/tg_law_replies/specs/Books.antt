pub mod Booked
pub mod Kept
pub mod Laws
