pub mod contents
pub mod laws
pub mod table
