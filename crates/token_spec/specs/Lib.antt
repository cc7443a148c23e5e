pub mod Tokens
pub mod Characters
pub mod Misspellings
pub mod Lexer
pub mod Texts
pub mod Cases
