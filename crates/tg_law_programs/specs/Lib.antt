pub mod Scripts
pub mod Lives
pub mod Headline
pub mod Sessions
pub mod Transcripts
