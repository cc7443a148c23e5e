pub mod Entries
pub mod Schemas
