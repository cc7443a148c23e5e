pub mod Opened
pub mod Bundles
pub mod Expanded
pub mod Selected
