pub mod Tables
pub mod Compiled
