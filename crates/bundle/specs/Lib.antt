pub mod Judging
pub mod Outcomes
pub mod columns
pub mod laws
pub mod names_in_tests
pub mod reader
pub mod records
