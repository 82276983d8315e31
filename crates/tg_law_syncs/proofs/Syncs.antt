pub mod Later
pub mod Hands
pub mod Clients
pub mod Confirming
pub mod Scanned
