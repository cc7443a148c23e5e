-- Relations from elements to names, and what is reached by way of elements.
pub mod Relations
pub mod Rounds
pub mod Schemas
