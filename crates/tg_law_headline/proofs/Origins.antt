pub mod Drafts
pub mod Plays
pub mod Steps
pub mod Turning
pub mod Along
pub mod Puts
pub mod Homes
pub mod Origins
