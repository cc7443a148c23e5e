pub mod columns
pub mod laws
pub mod results
pub mod texts
