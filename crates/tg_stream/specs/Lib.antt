pub mod Words
pub mod Walks
pub mod Turns
pub mod Laws
pub mod Paths
pub mod Pages
