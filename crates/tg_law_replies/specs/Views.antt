pub mod Views
pub mod Looking
pub mod Exact
pub mod Walks
pub mod Laws
