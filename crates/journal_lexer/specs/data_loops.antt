pub mod Modes
pub mod Bytes
pub mod Characters
pub mod Entities
