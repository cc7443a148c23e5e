-- Reading a journal under a record, as the library's outcome.
use Rattle.std.specs.Prelude.{Bool, cond, ◌&&◌, List, [], ◌≡◌, ℕ, ◌≤◌, leb, length, take, Result, Err}
use Rattle.std.proofs.Math.Bool.{true, false}
use Rattle.std.proofs.Math.Option.{none, some}
use Rattle.std.proofs.Math.Path.{refl, sym}
use Rattle.std.proofs.Common.{ap, subst, ◌∙◌, leb→le, length-take-le}
use Rattle.std.proofs.Math.Dec.{T}
use Rattle.cells.specs.columns.ColumnLaws.{equal-columns}
use Rattle.cells.specs.columns.Columns.{EqualColumns}
use Rattle.cells.specs.verdicts.Verdicts.{verdict}
use Rattle.compiled_schema.specs.records.Records.{record_with}
use Rattle.journal_reader.specs.event_loop.Judging.{outcome}
use Rattle.journal.specs.compiled.Compiled.{CompiledRead}
use Rattle.library_spec.specs.Calls.{columns_after, journal_read}
use Rattle.library_spec.specs.Records.{schema_held, passes_schema}
use Rattle.schema_laws.specs.Records.{record-accepted}
use Rattle.schema_reader.specs.Records.{passes_record}
use Rattle.schema_spec.specs.Reading.{read_schema}
use Rattle.schema_spec.specs.Records.{schema_in, is_schema_record}
use Rattle.table_spec.specs.Columns.{Columns, Sizes, sizes_of, equal_sizes, columns_of}
use Rattle.table_spec.specs.Rows.{Row}
use Rattle.text.specs.declared.refusals.Reason.TheVariants.{BadRecord}
use Rattle.text.specs.declared.refusals.Refusal.{Refusal}
use Rattle.text.specs.refusals.Refusals.{refusal}
use Rattle.text_laws.specs.Cells.{padded-length}
use Rattle.text_laws.specs.Lists.{bytes-equal}
use Rattle.text_laws.specs.Tests.{and_cases, passed, failed}
use Rattle.text_spec.specs.Calls.{handed, tested}
use Rattle.text_spec.specs.Cells.{padded}
use Rattle.text_spec.specs.Limits.{max_schema_bytes, max_journal_bytes}
use Rattle.text_spec.specs.Lists.{same_bytes}
use Rattle.text_spec.specs.Refusals.{Outcome, accepted, refused, at, bad_record}

module _ (cells : List ℕ) (size : ℕ) where
  abbrev is_lent : Sizes → Bool
  is_lent z = passes_record cells size && equal_sizes z

  -- the test by its two parts
  pub no-record : (z : Sizes) → passes_record cells size ≡ false → is_lent z ≡ false
  no-record z e = ap (λ (b : Bool). b && equal_sizes z) e

  pub no-columns : (z : Sizes) (b : Bool) → b ≡ equal_sizes z → b ≡ false → is_lent z ≡ false
  no-columns z b e h = ap (λ (c : Bool). passes_record cells size && c) (sym e ∙ h) ∙ none (passes_record cells size)
    where
      none : (p : Bool) → (p && false) ≡ false
      none true = refl
      none false = refl

  pub both-pass : (z : Sizes) (b : Bool) → passes_record cells size ≡ true → b ≡ equal_sizes z → b ≡ true → is_lent z ≡ true
  both-pass z b e f h = ap (λ (c : Bool). c && equal_sizes z) e ∙ sym f ∙ h

  module _ (text : List ℕ) (z : Sizes) where
    -- the outcome by the two tests of refusal 1
    under : Bool → Bool → Outcome (List Row)
    under p q = handed (cond p (some (schema_in (take size cells))) none) (λ s. tested q (outcome s text max_journal_bytes z))

    called : journal_read (record_with cells size) text z ≡ under (passes_record cells size) (equal_sizes z)
    unfolding journal_read schema_held passes_schema under
    called = refl

    none_read : is_lent z ≡ false → journal_read (record_with cells size) text z ≡ refused (at bad_record 0)
    unfolding under
    none_read h = called ∙ pick (passes_record cells size) (equal_sizes z) h
      where
        pick : (p q : Bool) → (p && q) ≡ false → under p q ≡ refused (at bad_record 0)
        pick false q e = refl
        pick true false e = refl
        pick true true e = absurd (failed e tt)

    read_under : is_lent z ≡ true → journal_read (record_with cells size) text z ≡ outcome (schema_in (take size cells)) text max_journal_bytes z
    unfolding under
    read_under h = called ∙ pick (passes_record cells size) (equal_sizes z) (passed h)
      where
        pick : (p q : Bool) → T (p && q) → under p q ≡ outcome (schema_in (take size cells)) text max_journal_bytes z
        pick false q e = absurd e
        pick true false e = absurd e
        pick true true e = refl

    -- 1
    pub refused-1 : is_lent z ≡ false → (r : Result ℕ Refusal) → r ≡ Err (refusal BadRecord 0) → r ≡ verdict (journal_read (record_with cells size) text z)
    refused-1 h r e = e ∙ sym (ap verdict (none_read h))

    pub cleared-1 : is_lent z ≡ false → columns_of z [] ≡ columns_after z (λ rows. rows) (journal_read (record_with cells size) text z)
    unfolding columns_after
    cleared-1 h = sym (ap (columns_after z (λ rows. rows)) (none_read h))

  -- the record passes, and another test t
  module _ (t : Bool) (lent : (passes_record cells size && t) ≡ true) where
    both : T (passes_record cells size) × T t
    both = and_cases (passes_record cells size) t (passed lent)

    tests : T (leb size max_schema_bytes && same_bytes cells (padded max_schema_bytes (take size cells))) × T (is_schema_record (take size cells))
    tests = and_cases (leb size max_schema_bytes && same_bytes cells (padded max_schema_bytes (take size cells))) (is_schema_record (take size cells)) both.0

    pub lent-room : size ≤ length cells
    lent-room =
        let held = and_cases (leb size max_schema_bytes) (same_bytes cells (padded max_schema_bytes (take size cells))) tests.0 in
        let full = ap length (bytes-equal cells (padded max_schema_bytes (take size cells)) held.1) ∙ padded-length max_schema_bytes (take size cells) in
        subst (λ (n : ℕ). size ≤ n) (sym full) (leb→le size max_schema_bytes held.0)

    pub lent-part : size ≡ length (take size cells)
    lent-part = sym (length-take-le size cells lent-room)

    read : read_schema (take size cells) ≡ accepted (schema_in (take size cells))
    read = record-accepted (take size cells) tests.1

  module _ (c : Columns) (lent : is_lent (sizes_of c) ≡ true) where
    pub lent-equal : EqualColumns c
    lent-equal = equal-columns c (both (equal_sizes (sizes_of c)) lent).1

    module _ {text : List ℕ} {d : Columns} {r : Result ℕ Refusal} (w : CompiledRead (take size cells) text max_journal_bytes c d r) where
      pub read_answer : r ≡ verdict (journal_read (record_with cells size) text (sizes_of c))
      read_answer = w.answer (read (equal_sizes (sizes_of c)) lent) ∙ sym (ap verdict (read_under text (sizes_of c) lent))

      pub read-cells : d ≡ columns_after (sizes_of c) (λ rows. rows) (journal_read (record_with cells size) text (sizes_of c))
      read-cells = w.cells (read (equal_sizes (sizes_of c)) lent) ∙ sym (ap (columns_after (sizes_of c) (λ rows. rows)) (read_under text (sizes_of c) lent))
