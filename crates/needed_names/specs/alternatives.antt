pub mod Alternatives
pub mod Laws
