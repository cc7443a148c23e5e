pub mod Records
pub mod Rereading
