pub mod Loops
pub mod Links
