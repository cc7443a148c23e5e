-- Theorems: a number is selected exactly if its row is marked (`Numbers`, `Firsts`), the listing by the rows of the journal (`Rows`), the longest
-- chain (`Sizes`), the three files judged in turn (`Files`).
pub mod Numbers
pub mod Firsts
pub mod Rows
pub mod Sizes
pub mod Files
