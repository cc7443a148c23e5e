pub mod classes
pub mod fault_keys
pub mod foreign_bytes
pub mod lookup
pub mod name_bytes
pub mod name_words
pub mod refusals
pub mod scanning
