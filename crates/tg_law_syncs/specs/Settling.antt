pub mod Listing
pub mod Visits
