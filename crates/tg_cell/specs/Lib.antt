pub mod Signed
pub mod Counters
pub mod CounterLaws
pub mod Registers
pub mod RegisterLaws
