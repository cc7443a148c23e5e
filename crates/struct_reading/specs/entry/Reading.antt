-- Reading a journal for so many row structs: as for the rows that a table can have, where they are more.
use Rattle.std.specs.Prelude.{Bool, List, ◌≡◌, ℕ, Result}
use Rattle.std.proofs.Math.Option.{Option, none, some}
use Rattle.std.proofs.Math.Path.{refl, sym, ap, subst}
use Rattle.std.proofs.Common.{ap₂, ◌∙◌}
use native.Mathlib.Omega.{arith}
use Rattle.cells.specs.verdicts.Verdicts.{verdict}
use Rattle.journal_spec.specs.Reading.{read_journal}
use Rattle.library_spec.specs.Calls.{in_columns, columns_after, journal_read, journal_read_rows}
use Rattle.library_spec.specs.Records.{schema_held}
use Rattle.projection_laws.specs.Limits.{accepted-within}
use Rattle.row_structs.specs.Structs.{cell_of, AnsweredFor}
use Rattle.row_structs.specs.laws.Answers.{Fitting, part_sizes, front, equal-sizes, room-fitting, room-same, part-sizes, in-front}
use Rattle.schema_spec.specs.Schemas.{Schema}
use Rattle.table_spec.specs.Columns.{Sizes, all_of_size, equal_sizes, columns}
use Rattle.table_spec.specs.Rows.{Row}
use Rattle.text.specs.declared.refusals.Refusal.{Refusal}
use Rattle.text_spec.specs.Calls.{handed, tested}
use Rattle.text_spec.specs.Limits.{max_journal_bytes}
use Rattle.text_spec.specs.Records.{TextRecord}
use Rattle.text_spec.specs.Refusals.{Outcome, accepted, refused, and_then}

module _ (schema : TextRecord) (text : List ℕ) where
  -- the outcome, by what the record holds and by that of the journal
  under : ℕ → Option Schema → Outcome (List Row)
  under n h = handed h (λ s. tested (equal_sizes (all_of_size n)) (and_then (read_journal max_journal_bytes s text) (in_columns (all_of_size n))))

  called : (n : ℕ) → journal_read_rows schema text n ≡ under n (schema_held schema)
  unfolding journal_read_rows journal_read under
  called n = refl

  read : (n : ℕ) (s : Schema) → under n (some s) ≡ and_then (read_journal max_journal_bytes s text) (in_columns (all_of_size n))
  unfolding under
  read n s = ap (λ (b : Bool). tested b (and_then (read_journal max_journal_bytes s text) (in_columns (all_of_size n)))) (equal-sizes n)

  -- a journal that is accepted has no more nodes than a table can have rows
  fitting-read : (n : ℕ) (s : Schema) → Fitting (and_then (read_journal max_journal_bytes s text) (in_columns (all_of_size n))) n
  fitting-read n s = by (read_journal max_journal_bytes s text) refl
    where
      by : (o : Outcome (List Row)) → read_journal max_journal_bytes s text ≡ o → Fitting (and_then o (in_columns (all_of_size n))) n
      by (refused f) e = record { room = omega arith; few = omega arith }
      by (accepted rows) e = room-fitting n rows (accepted-within s text rows e).nodes

  fitting : (n : ℕ) → Fitting (journal_read_rows schema text n) n
  unfolding under
  fitting n = subst (λ (o : Outcome (List Row)). Fitting o n) (sym (called n)) (by (schema_held schema))
    where
      by : (h : Option Schema) → Fitting (under n h) n
      by none = record { room = omega arith; few = omega arith }
      by (some s) = subst (λ (o : Outcome (List Row)). Fitting o n) (sym (read n s)) (fitting-read n s)

  -- the structs past those of a table make no difference
  same_read : (n : ℕ) (s : Schema) → and_then (read_journal max_journal_bytes s text) (in_columns (all_of_size (cell_of n))) ≡ and_then (read_journal max_journal_bytes s text) (in_columns (all_of_size n))
  same_read n s = by (read_journal max_journal_bytes s text) refl
    where
      by : (o : Outcome (List Row)) → read_journal max_journal_bytes s text ≡ o → and_then o (in_columns (all_of_size (cell_of n))) ≡ and_then o (in_columns (all_of_size n))
      by (refused f) e = refl
      by (accepted rows) e = room-same n rows (accepted-within s text rows e).nodes

  same : (n : ℕ) → journal_read schema text (all_of_size (cell_of n)) ≡ journal_read_rows schema text n
  unfolding under journal_read_rows
  same n = called (cell_of n) ∙ by (schema_held schema) ∙ sym (called n)
    where
      by : (h : Option Schema) → under (cell_of n) h ≡ under n h
      by none = refl
      by (some s) = read (cell_of n) s ∙ same_read n s ∙ sym (read n s)

  -- what reading into the first cells of columns of zeros answers
  module _ (n k : ℕ) (size : k ≡ cell_of n) (v : Result ℕ Refusal) (numbers names parents starts lengths decoded : List ℕ) where
    for-structs : journal_read schema text (part_sizes k) ≡ journal_read_rows schema text n
    for-structs = ap (journal_read schema text) (part-sizes k n size ∙ ap all_of_size size) ∙ same n

    pub read-for : v ≡ verdict (journal_read schema text (part_sizes k)) → columns numbers names parents starts lengths decoded ≡ columns_after (part_sizes k) (λ rows. rows) (journal_read schema text (part_sizes k))
        → AnsweredFor (journal_read_rows schema text n) n v (columns (front k numbers) (front k names) (front k parents) (front k starts) (front k lengths) (front k decoded))
    read-for answer cells =
        in-front (journal_read_rows schema text n) n (fitting n) v (answer ∙ ap verdict for-structs) k size numbers names parents starts lengths decoded
        (cells ∙ ap₂ (λ (z : Sizes) (o : Outcome (List Row)). columns_after z (λ rows. rows) o) (part-sizes k n size) for-structs)
