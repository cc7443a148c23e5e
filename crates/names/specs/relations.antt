pub mod Names
pub mod Relations
