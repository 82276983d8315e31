pub mod Bands
pub mod Courses
pub mod Elements
pub mod Replies
pub mod Standings
pub mod Quiet
