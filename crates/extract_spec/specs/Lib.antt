pub mod Cut
pub mod Fields
pub mod Reading
pub mod Conditions
pub mod Cases
