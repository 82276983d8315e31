pub mod Words
pub mod Kinds
pub mod Stores
pub mod Traces
pub mod Legal
pub mod Verdicts
