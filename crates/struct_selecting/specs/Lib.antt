pub mod entry
