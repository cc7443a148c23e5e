-- Theorems: what an event makes of that state is what the definition builds (`StateLaws`), for start tags (`Starts`), end tags (`Ends`) and runs
-- of character data (`Runs`).
pub mod StateLaws
pub mod Starts
pub mod Ends
pub mod Runs
pub mod Tags
