pub mod Confirmed
pub mod Undecided
pub mod Rescues
pub mod Worked
