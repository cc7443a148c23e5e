pub mod Modes
pub mod Places
pub mod Relation
pub mod Laws
pub mod Numbers
