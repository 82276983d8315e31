pub mod Loops
pub mod Walks
pub mod Rising
pub mod Linking
