pub mod ColumnLaws
pub mod Columns
pub mod Lent
