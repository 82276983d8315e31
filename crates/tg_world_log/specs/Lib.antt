pub mod Archives
pub mod Turns
