pub mod Endings
pub mod Findings
