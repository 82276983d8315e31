pub mod Paths
pub mod PathLaws
pub mod Trees
pub mod Orders
pub mod Growth
pub mod TreeLaws
pub mod Links
