pub mod Linking
pub mod Lifting
pub mod Settled
pub mod Resting
pub mod Told
pub mod Trimmed
pub mod Steps
pub mod Holding
