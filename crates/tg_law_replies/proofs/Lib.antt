pub mod Plays
pub mod History
pub mod Views
pub mod Pages
pub mod Replies
pub mod Books
