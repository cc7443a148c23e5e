pub mod Onward
pub mod Points
