-- Theorems: the columns of a table that is handed in are those of the rows that it holds, and are those of a tested table (`Rows`).
pub mod Rows
