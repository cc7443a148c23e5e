pub mod Rows
pub mod Columns
pub mod Nodes
pub mod Tables
pub mod Conditions
pub mod Cases
