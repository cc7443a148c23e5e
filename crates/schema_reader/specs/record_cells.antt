pub mod Recorded
