pub mod Words
pub mod Pruned
pub mod Known
pub mod Walks
pub mod Rules
