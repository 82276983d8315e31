pub mod Contests
pub mod Laws
