-- Climbing a column of parents from a row up to the first row that passes a test (`Climbs`); a table judged in one pass over its columns
-- (`Passes`), names by their codes (`Codes`), the open elements (`Lines`), one row more (`Rows`), that the pass is the test of well-formed tables
-- (`Tables`), and the texts beside it (`Texts`): definitions that contracts cite, and their laws.
pub mod Climbs
pub mod Passes
pub mod Codes
pub mod Lines
pub mod Rows
pub mod Tables
pub mod Texts
