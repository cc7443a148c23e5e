pub mod Automaton
pub mod Building
pub mod BuildingLaws
pub mod Kinds
pub mod Placing
pub mod PositionLaws
pub mod Positions
pub mod fitting
