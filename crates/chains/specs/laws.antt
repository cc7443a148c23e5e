-- Theorems: over a compiled schema and the columns of a well-formed table the chain that is written is that of the row's node (`Names`, `Nodes`).
pub mod Names
pub mod Nodes
