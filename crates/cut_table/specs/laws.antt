-- Theorems: the columns of such a table are as cutting asks, and what is cut is the library's `table_cut` (`Answers`).
pub mod Answers
