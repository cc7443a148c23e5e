pub mod Automata
pub mod Entries
