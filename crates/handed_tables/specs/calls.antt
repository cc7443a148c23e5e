-- Theorems: calls that are handed a schema's record and a table, and refusal 1 of either (`Calls`).
pub mod Calls
