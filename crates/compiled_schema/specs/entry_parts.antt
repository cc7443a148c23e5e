pub mod Entries
pub mod EntryLaws
pub mod Kinds
