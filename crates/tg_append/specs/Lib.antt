pub mod Words
pub mod Turns
pub mod Appends
pub mod Needs
pub mod Syncs
pub mod AppendLaws
pub mod SyncLaws
