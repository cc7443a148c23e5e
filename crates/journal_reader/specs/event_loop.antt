pub mod Events
pub mod Journals
pub mod Judging
