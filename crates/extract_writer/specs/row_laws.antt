-- Theorems: the code writes `write_extract` of a well-formed table and of the cut table, from the columns of the whole (`Written`).
pub mod Written
