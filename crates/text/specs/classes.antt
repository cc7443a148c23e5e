pub mod Classes
pub mod Runs
