pub mod Steps
pub mod Moves
pub mod Requests
pub mod Agreement
pub mod Layouts
