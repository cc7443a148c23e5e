pub mod Reading
pub mod Entries
