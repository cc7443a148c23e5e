pub mod Paths
pub mod Grammar
pub mod Machine
pub mod Reading
pub mod Conditions
pub mod Selection
pub mod Cases
