pub mod calls
pub mod columns
pub mod structs
