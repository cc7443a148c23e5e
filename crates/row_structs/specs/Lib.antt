pub mod Structs
pub mod laws
