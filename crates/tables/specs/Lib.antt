pub mod Handed
pub mod row_text
pub mod rows
pub mod text_ranges
