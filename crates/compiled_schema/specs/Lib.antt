pub mod Compiled
pub mod Places
pub mod element_entry
pub mod entries
pub mod entry_parts
pub mod held_words
pub mod records
