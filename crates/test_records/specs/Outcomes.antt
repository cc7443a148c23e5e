-- What an answer is told as: numbers, for the C interface of the tests.
use Rattle.std.specs.Prelude.{ℕ, Result, Ok, Err}
use Rattle.test_records.specs.declared.Outcome.{Outcome}
use Rattle.text.specs.declared.refusals.Refusal.{Refusal}
use Rattle.text.specs.refusals.Refusals.{reason_in}
use Rattle.text_spec.specs.Refusals.{number_of}

abbrev pub answered_as : ℕ → ℕ → Outcome
answered_as size other = record { number = 0; place = 0; size = size; other = other }

-- with how many cells are handed back
abbrev pub refused_as : Refusal → ℕ → Outcome
refused_as f size = record { number = number_of (reason_in f.reason); place = f.place; size = size; other = 0 }

-- so many cells answered
abbrev pub cells_as : Result ℕ Refusal → Outcome
cells_as (Ok size) = answered_as size 0
cells_as (Err f) = refused_as f 0

-- a record of so many cells, and how much it holds
abbrev pub record_as : Result ℕ Refusal → ℕ → Outcome
record_as (Ok count) len = answered_as len count
record_as (Err f) len = refused_as f len
