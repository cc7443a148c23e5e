-- Theorems: the columns of a table that is well formed beside its text are what writing its extract asks for (`Asked`).
pub mod Asked
