pub mod Types
pub mod Rules
pub mod Needed
pub mod Walks
pub mod Cases
