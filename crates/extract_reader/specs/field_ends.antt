pub mod Ends
pub mod Values
