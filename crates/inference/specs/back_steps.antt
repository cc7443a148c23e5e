pub mod Needs
pub mod Laws
pub mod Numbers
