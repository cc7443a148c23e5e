pub mod Opened
pub mod Tables
pub mod Texts
