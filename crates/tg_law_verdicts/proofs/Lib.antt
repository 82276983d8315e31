pub mod Members
pub mod Tests
pub mod Lines
pub mod Asks
pub mod Found
pub mod Legality
