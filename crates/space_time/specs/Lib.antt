pub mod Records
pub mod Pictures
pub mod Cuts
pub mod Endings
