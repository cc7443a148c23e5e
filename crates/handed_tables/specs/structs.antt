-- Theorems: a table that is handed in as row structs holds what the columns hold in which they are laid, and nothing where its rows are too many
-- (`Tables`).
pub mod Tables
