pub mod laws
pub mod schema_sets
