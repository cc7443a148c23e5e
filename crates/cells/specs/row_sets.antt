pub mod Columns
pub mod Ancestors
pub mod Loops
