pub mod Columns
pub mod Paths
pub mod Sizes
pub mod Steps
