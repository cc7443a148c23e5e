pub mod Opened
pub mod Exits
pub mod Questions
pub mod Tried
pub mod Edges
pub mod Hosts
