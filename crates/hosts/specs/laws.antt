-- Theorems: the definitions of the two host functions stage by stage (`Stages`); an accepted extract's rows are well formed (`Extracts`).
pub mod Stages
pub mod Extracts
