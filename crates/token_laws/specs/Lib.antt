pub mod Events
pub mod Characters
pub mod Passes
pub mod Spellings
pub mod Texts
