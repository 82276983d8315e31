pub mod Closing
pub mod Printed
