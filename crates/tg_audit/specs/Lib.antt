pub mod Judging
pub mod Places
pub mod Ruling
pub mod Runs
pub mod Same
pub mod SameLaws
pub mod Sweeps
pub mod Told
