pub mod Swapping
mod Moving
mod Starting
mod Taking
mod Waits
mod Counting
mod Boxed
