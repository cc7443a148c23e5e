pub mod ReadLaws
pub mod Reads
pub mod Whole
