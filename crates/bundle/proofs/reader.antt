pub mod Under
pub mod Records
