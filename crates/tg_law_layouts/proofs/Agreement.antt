pub mod Counts
pub mod Ballots
pub mod Facts
pub mod Servers
pub mod Votes
pub mod Proposers
pub mod Contests
pub mod Runs
