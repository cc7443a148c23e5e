pub mod Readings
pub mod Conditions
pub mod ConditionLaws
