-- Theorems: the relations in a compiled schema are those that needed names ask for (`Compiled`).
pub mod Compiled
