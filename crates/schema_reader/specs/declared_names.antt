pub mod Names
pub mod Naming
pub mod Resolving
