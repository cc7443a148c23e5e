pub mod Paths
pub mod Selection
pub mod Inverses
pub mod Grammar
pub mod Reading
