pub mod Trees
pub mod Validity
pub mod Conditions
pub mod Builder
pub mod Reading
pub mod Cases
