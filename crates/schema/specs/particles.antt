pub mod Automata
pub mod AutomataLaws
pub mod ParticleLaws
pub mod Parting
pub mod ReadingLaws
pub mod Readings
