pub mod Marks
pub mod Steps
pub mod StepLaws
pub mod Fitting
