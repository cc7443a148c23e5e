pub mod compiled
pub mod records
