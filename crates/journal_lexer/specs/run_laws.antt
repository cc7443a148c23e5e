-- The run over a journal by places, with the events of whole tokens (`Passes`); the outcome by the least key of all that is found (`Findings`).
pub mod Passes
pub mod Findings
