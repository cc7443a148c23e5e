pub mod handed
pub mod laws
pub mod lent
pub mod records
pub mod tags
