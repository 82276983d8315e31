pub mod Lists
pub mod Making
pub mod Numbering
pub mod Scripts
pub mod Feeding
pub mod Exact
pub mod Promises
