pub mod Turns
pub mod Ends
pub mod Fills
pub mod Gets
pub mod Waits
pub mod Learns
pub mod Laws
