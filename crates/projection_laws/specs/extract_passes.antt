-- Reading an extract in one pass, field by field, with the open elements carried (`Steps`), equal to the definition (`Places`, `Levels`, `Rows`,
-- `Tables`, `Reading`).
pub mod Steps
pub mod Places
pub mod Levels
pub mod Rows
pub mod Tables
pub mod Reading
