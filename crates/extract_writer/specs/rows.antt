pub mod Rows
pub mod Measure
