pub mod Issues
