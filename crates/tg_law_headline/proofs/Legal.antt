pub mod Legal
pub mod Store
