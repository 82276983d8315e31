pub mod Marks
pub mod Holds
pub mod Keeps
pub mod Touching
pub mod Spelled
pub mod Fitting
