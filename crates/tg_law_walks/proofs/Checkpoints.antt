pub mod Checkpoints
