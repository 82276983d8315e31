pub mod Sets
pub mod Orders
pub mod Judged
pub mod Drafting
