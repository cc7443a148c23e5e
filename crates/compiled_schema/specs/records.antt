-- Theorems: what `schema_reader` answers and hands back and its test are the library's `schema_read` and `passes_schema` (`Records`); over a
-- compiled schema the code computes the sets held, holding, below and above, the element of a name and what fits (`Compiled`).
pub mod Records
pub mod Compiled
