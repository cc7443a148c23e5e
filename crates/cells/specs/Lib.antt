pub mod columns
pub mod lent
pub mod row_sets
pub mod verdicts
pub mod written_text
