pub mod Confirming
pub mod Strides
pub mod Founds
pub mod First
pub mod Ending
pub mod Viewing
