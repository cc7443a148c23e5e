pub mod Opened
pub mod Schemas
