pub mod Opened
pub mod Journals
