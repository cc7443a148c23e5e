pub mod Envs
pub mod Laws
