-- Theorems: the outcome by the refusals of the lowest number (`Order`), the first path that passes a limit is the least place of 9, and how much
-- a bundle has where none does (`Limits`), the least place of 10 (`Names`), of 2 and 3 (`Texts`), the compiled steps stand for the paths
-- (`Columns`, `Filled`).
pub mod Order
pub mod Limits
pub mod Names
pub mod Columns
pub mod Filled
pub mod Texts
