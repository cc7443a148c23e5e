-- Lent slices at both ends of a call, as a contract names them: what they hold at entry, and what they are left with at exit.
use Rattle.std.specs.Prelude.{List, ◌≡◌, ℕ}
use Rattle.std.specs.Borrow.{MutBor}
use denote.Triple.Both.{Both}
use Rattle.library_spec.specs.Calls.{columns_after}
use Rattle.table_spec.specs.Columns.{Columns, columns, Sizes, sizes_of}
use Rattle.table_spec.specs.Rows.{Row}
use Rattle.text_spec.specs.Refusals.{Outcome}

-- a slice of elements that a contract knows as values of A
abbrev pub SliceOf : Type 0 → Type 0
SliceOf A = Both (MutBor (List A)) (MutBor (List A))

abbrev pub Slice : Type 0
Slice = SliceOf ℕ

-- the six columns of a table
abbrev pub entry_columns : Slice → Slice → Slice → Slice → Slice → Slice → Columns
entry_columns numbers names parents starts lengths decoded = columns numbers.entry.now names.entry.now parents.entry.now starts.entry.now lengths.entry.now decoded.entry.now

abbrev pub exit_columns : Slice → Slice → Slice → Slice → Slice → Slice → Columns
exit_columns numbers names parents starts lengths decoded = columns numbers.exit.now names.exit.now parents.exit.now starts.exit.now lengths.exit.now decoded.exit.now

-- the same, as a `requires` names them
abbrev pub held_columns : MutBor (List ℕ) → MutBor (List ℕ) → MutBor (List ℕ) → MutBor (List ℕ) → MutBor (List ℕ) → MutBor (List ℕ) → Columns
held_columns numbers names parents starts lengths decoded = columns numbers.now names.now parents.now starts.now lengths.now decoded.now

-- how many cells each has
abbrev pub entry_sizes : Slice → Slice → Slice → Slice → Slice → Slice → Sizes
entry_sizes numbers names parents starts lengths decoded = sizes_of (entry_columns numbers names parents starts lengths decoded)

-- what a call leaves in them, by its outcome for so many cells of each: its rows, and zeros
abbrev pub LeftRows : (Sizes → Outcome (List Row)) → Slice → Slice → Slice → Slice → Slice → Slice → Type 0
LeftRows call numbers names parents starts lengths decoded =
    exit_columns numbers names parents starts lengths decoded
    ≡ columns_after (entry_sizes numbers names parents starts lengths decoded) (λ rows. rows) (call (entry_sizes numbers names parents starts lengths decoded))
