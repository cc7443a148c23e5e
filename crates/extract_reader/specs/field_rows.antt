pub mod Steps
pub mod StepLaws
