pub mod Opened
pub mod Needed
