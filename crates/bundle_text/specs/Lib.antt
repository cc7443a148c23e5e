pub mod alternative_ends
pub mod alternatives
pub mod axes
pub mod notes
pub mod paths
pub mod steps
pub mod written_steps
