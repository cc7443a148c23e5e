-- Outcomes as the answers of calls, and laws on them.
pub mod Verdicts
pub mod VerdictLaws
