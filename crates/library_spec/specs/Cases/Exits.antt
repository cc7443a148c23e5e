-- What a call of a public function says and leaves: the refusal's number and place, and what each lent output holds at exit.
use Rattle.std.specs.Prelude.{List, [], ◌∷◌, ◌++◌, map, ℕ, length}
use Rattle.library_spec.specs.Calls.{RowText, no_text, text_at, rows_after, columns_after, record_after, part_after, structs_after}
use Rattle.library_spec.specs.Hosts.{HostAnswer, Lent, result_of}
use Rattle.library_spec.specs.Selections.{Selections}
use Rattle.table_spec.specs.Columns.{Columns, Sizes}
use Rattle.table_spec.specs.Rows.{Row, Cells}
use Rattle.text_spec.specs.Calls.{list_after, cells_after}
use Rattle.text_spec.specs.Records.{TextRecord}
use Rattle.text_spec.specs.Refusals.{Outcome, accepted, refused, number_of}

pub record Exit : Type 0 where
  -- the refusal's number, 0 for none, and its place
  pub number : ℕ
  pub place : ℕ
  -- what is handed back, and the lent outputs
  pub outputs : List (List ℕ)

abbrev pub exit : ℕ → ℕ → List (List ℕ) → Exit
exit number place outputs = record { number = number; place = place; outputs = outputs }

-- by cases, so that an outcome is computed once
abbrev pub exit_of : {A : Type 0} → (Outcome A → List (List ℕ)) → Outcome A → Exit
exit_of outputs (accepted a) = exit 0 0 (outputs (accepted a))
exit_of outputs (refused f) = exit (number_of f.reason) f.place (outputs (refused f))

abbrev pub lists_of : Columns → List (List ℕ)
lists_of c = c.numbers ∷ c.names ∷ c.parents ∷ c.starts ∷ c.lengths ∷ c.decoded ∷ []

-- a host function: how many rows, items and counts are answered, the six columns, items, counts
abbrev pub host_outputs : Lent → Outcome HostAnswer → List (List ℕ)
host_outputs l o =
    ((result_of o).rows ∷ (result_of o).items ∷ (result_of o).counts ∷ [])
    ∷ (lists_of (columns_after l.columns (λ a. a.rows) o) ++ (cells_after l.items (λ a. a.items) o ∷ cells_after l.counts (λ a. a.counts) o ∷ []))

abbrev pub host_exit : Lent → Outcome HostAnswer → Exit
host_exit l (accepted a) = exit (result_of (accepted a)).number (result_of (accepted a)).place (host_outputs l (accepted a))
host_exit l (refused f) = exit (result_of (refused f)).number (result_of (refused f)).place (host_outputs l (refused f))

-- a record: its length and its cells
abbrev pub record_exit : ℕ → Outcome TextRecord → Exit
record_exit limit o = exit_of (λ o. ((record_after limit o).size ∷ []) ∷ (record_after limit o).cells ∷ []) o

-- a table: how many rows, and the six columns
abbrev pub rows_exit : Sizes → Outcome (List Row) → Exit
rows_exit z o = exit_of (λ o. (length (rows_after (λ rows. rows) o) ∷ []) ∷ lists_of (columns_after z (λ rows. rows) o)) o

-- a table in row structs: how many rows, and each struct
abbrev pub cell_list : Cells → List ℕ
cell_list c = c.number ∷ c.name ∷ c.parent ∷ c.start ∷ c.size ∷ c.decoded ∷ []

abbrev pub structs_exit : ℕ → Outcome (List Row) → Exit
structs_exit n o = exit_of (λ o. (length (rows_after (λ rows. rows) o) ∷ []) ∷ map cell_list (structs_after n o)) o

-- a set as 64 bits
abbrev pub word_exit : Outcome ℕ → Exit
word_exit o = exit_of (λ o. list_after (λ word. word ∷ []) o ∷ []) o

-- bytes: how many, and the lent cells
abbrev pub bytes_exit : ℕ → Outcome (List ℕ) → Exit
bytes_exit size o = exit_of (λ o. (length (list_after (λ bs. bs) o) ∷ []) ∷ cells_after size (λ bs. bs) o ∷ []) o

-- selected numbers and their counts: how many of each, and the lent cells
abbrev pub selections_exit : ℕ → ℕ → Outcome Selections → Exit
selections_exit items counts o =
    exit_of
    (λ o.
    (length (list_after (λ a. a.items) o) ∷ length (list_after (λ a. a.counts) o) ∷ [])
    ∷ cells_after items (λ a. a.items) o
    ∷ cells_after counts (λ a. a.counts) o
    ∷ []) o

-- the text of a row: its start, length and decoded length where it has one, and the part of the lent text
abbrev pub range_of : RowText → List ℕ
range_of no_text = []
range_of (text_at start size decoded) = start ∷ size ∷ decoded ∷ []

abbrev pub text_exit : List ℕ → Outcome RowText → Exit
text_exit lent o = exit_of (λ o. list_after range_of o ∷ part_after lent o ∷ []) o
