-- Theorems that the walks of MIR share: a function's locals (`Locals`), the last entries of a context as one (`Contexts`), an array of numbers in
-- a memory slot (`Slots`), what a callee answers and two clauses at the exit (`Calls`), an answer with a table (`Answers`).
pub mod Locals
pub mod Contexts
pub mod Slots
pub mod Calls
pub mod Answers
