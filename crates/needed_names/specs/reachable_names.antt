pub mod Reached
pub mod Images
