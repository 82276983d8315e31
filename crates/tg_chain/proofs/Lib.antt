pub mod Outs
pub mod Same
pub mod Answering
pub mod Chains
pub mod Steps
pub mod Passing
pub mod Learnt
pub mod Rising
