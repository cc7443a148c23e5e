-- Theorems: a table answered in the first cells of columns of zeros is one answered for so many row structs (`Answers`).
pub mod Answers
