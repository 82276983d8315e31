pub mod Units
pub mod Left
pub mod Pages
pub mod Late
pub mod Tails
pub mod Past
pub mod Order
