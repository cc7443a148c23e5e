pub mod Laws
pub mod Notes
