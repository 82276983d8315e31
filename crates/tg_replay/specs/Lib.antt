pub mod Runs
pub mod Stages
pub mod Outcomes
pub mod Headline
