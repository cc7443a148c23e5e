-- Theorems: the rows of a text in lent columns, by the verdict that is told of them (`Rows`).
pub mod Rows
