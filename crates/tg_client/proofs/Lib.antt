mod Fresh
mod Testing
mod Bounded
mod Near
pub mod Counted
pub mod Fed
pub mod Awaited
pub mod Resumed
pub mod Delivered
