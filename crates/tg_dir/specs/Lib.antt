pub mod Spellings
pub mod SpellingLaws
pub mod Directories
pub mod DirectoryLaws
