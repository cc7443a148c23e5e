-- Theorems: what stands at marked rows, picked (`Picked`), the columns of a well-formed table cut as the definition cuts it (`Cut`), rows whose
-- names have codes (`Codes`), and sets of a schema's names (`Known`).
pub mod Picked
pub mod Cut
pub mod Codes
pub mod Known
