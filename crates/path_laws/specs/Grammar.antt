pub mod Machine
pub mod Joined
pub mod Complete
pub mod Sound
pub mod Places
