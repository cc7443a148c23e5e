pub mod Axes
pub mod Marked
pub mod Conditions
pub mod Paths
pub mod Meaning
pub mod marks
