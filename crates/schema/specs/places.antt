pub mod Whole
pub mod PlaceLaws
