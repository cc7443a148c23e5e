-- What a sibling is by the column of parents (`Siblings`), and the passes for siblings after a marked row (`Following`) and before one (`Preceding`).
pub mod Siblings
pub mod Following
pub mod Preceding
