-- Reading a schema text means what the grammar and the conditions of 2 to 7 say (`Reading`; `Complete`, `Sound`, `Places`).
pub mod Steps
pub mod Runs
pub mod Complete
pub mod Sound
pub mod Places
pub mod Conditions
pub mod Reading
pub mod Normal
