-- Theorems: where the lexer's state stands on the definition's way, and what a loop over the bytes of some modes promises (`Advance`).
pub mod Advance
pub mod Laws
pub mod Turns
