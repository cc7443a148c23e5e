pub mod Kept
pub mod Joined
pub mod Positions
pub mod columns
pub mod cut_rows
pub mod laws
