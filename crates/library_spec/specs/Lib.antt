pub mod Records
pub mod Chains
pub mod Selections
pub mod Calls
pub mod Hosts
pub mod Listing
pub mod Conditions
pub mod Cases
