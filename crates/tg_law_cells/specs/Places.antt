pub mod Left
pub mod Late
pub mod Past
pub mod Order
