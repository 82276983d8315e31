pub mod Changes
pub mod PastViews
pub mod Settles
