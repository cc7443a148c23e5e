pub mod Opened
pub mod Misspellings
pub mod Characters
pub mod Texts
