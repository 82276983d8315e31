pub mod Lines
pub mod Fields
pub mod Refusals
pub mod Replies
pub mod Transcripts
pub mod Reading
