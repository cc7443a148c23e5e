pub mod headers
pub mod lines
pub mod nodes
pub mod parts
