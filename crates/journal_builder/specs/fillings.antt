pub mod Fillings
pub mod FillingLaws
