pub mod Units
pub mod Layouts
pub mod Clusters
pub mod Changes
pub mod Parts
pub mod Orders
