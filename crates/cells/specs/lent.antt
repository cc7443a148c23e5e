pub mod Cells
pub mod Columns
pub mod Appended
pub mod Ends
