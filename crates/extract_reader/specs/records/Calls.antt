-- The answer is the library's outcome: 1 for the record and for columns of unequal length, then that of the extract.
use Rattle.std.specs.Prelude.{Bool, true, false, cond, List, [], ◌≡◌, refl, ℕ, Result, Err}
use Rattle.std.proofs.Math.Option.{some, none}
use Rattle.std.proofs.Common.{sym, ◌∙◌}
use Rattle.std.proofs.Math.Path.{ap}
use Rattle.cells.specs.columns.Lent.{lent_columns, Left}
use Rattle.cells.specs.declared.columns.ColumnsMut.{ColumnsMut}
use Rattle.cells.specs.verdicts.Verdicts.{verdict}
use Rattle.extract_reader.specs.table.Tables.{outcome, TableRead}
use Rattle.extract_reader.specs.table.Words.{read-words}
use Rattle.extract_spec.specs.Reading.{read_extract}
use Rattle.library_spec.specs.Calls.{in_columns, columns_after, extract_read}
use Rattle.library_spec.specs.Records.{schema_held, passes_schema}
use Rattle.schema_spec.specs.Records.{schema_in}
use Rattle.schema_spec.specs.Types.{types_of}
use Rattle.table_laws.specs.passes.Codes.{HeldWords}
use Rattle.table_spec.specs.Columns.{Columns, Sizes, sizes_of, equal_sizes, columns_of}
use Rattle.table_spec.specs.Rows.{Row}
use Rattle.text.specs.declared.refusals.Reason.TheVariants.{BadRecord}
use Rattle.text.specs.declared.refusals.Refusal.{Refusal}
use Rattle.text.specs.refusals.Refusals.{refusal}
use Rattle.text_spec.specs.Calls.{handed, tested}
use Rattle.text_spec.specs.Records.{TextRecord, text_in}
use Rattle.text_spec.specs.Refusals.{Outcome, refused, at, bad_record, and_then}

-- what a call leaves in columns, by its outcome for so many cells of each: its rows, and zeros
abbrev pub LeftRows : (Sizes → Outcome (List Row)) → ColumnsMut → ColumnsMut → Type 0
LeftRows call old new = Left old new (columns_after (sizes_of (lent_columns old)) (λ rows. rows) (call (sizes_of (lent_columns old))))

-- what is stated of the answer
pub record CallAs (o : Outcome (List Row)) (c d : Columns) (r : Result ℕ Refusal) : Type 0 where
  pub answer : r ≡ verdict o
  pub cells : d ≡ columns_after (sizes_of c) (λ rows. rows) o

pub stated : {o : Outcome (List Row)} {c d : Columns} {r : Result ℕ Refusal} → CallAs o c d r → (r ≡ verdict o) × (d ≡ columns_after (sizes_of c) (λ rows. rows) o)
stated call = (call.answer, call.cells)

module _ (schema : TextRecord) (bs : List ℕ) (z : Sizes) where
  abbrev after_tests : Bool → Bool → Outcome (List Row)
  after_tests passes equal = handed (cond passes (some (schema_in (text_in schema))) none) (λ s. tested equal (and_then (read_extract (types_of s) bs) (λ rows. in_columns z rows)))

  by_tests : (passes equal : Bool) → passes_schema schema ≡ passes → equal_sizes z ≡ equal → extract_read schema bs z ≡ after_tests passes equal
  unfolding extract_read schema_held
  by_tests passes equal p e = ap (λ (b : Bool). after_tests b (equal_sizes z)) p ∙ ap (after_tests passes) e

  no_record : passes_schema schema ≡ false → extract_read schema bs z ≡ refused (at bad_record 0)
  no_record p = by_tests false (equal_sizes z) p refl

  no-columns : passes_schema schema ≡ true → equal_sizes z ≡ false → extract_read schema bs z ≡ refused (at bad_record 0)
  no-columns p e = by_tests true false p e

  read-outcome : passes_schema schema ≡ true → equal_sizes z ≡ true → extract_read schema bs z ≡ outcome (schema_in (text_in schema)) bs z
  read-outcome p e = by_tests true true p e

-- refused by 1, with the columns clear
refused-call : (o : Outcome (List Row)) (c d : Columns) (r : Result ℕ Refusal) → o ≡ refused (at bad_record 0) → r ≡ Err (refusal BadRecord 0) → d ≡ columns_of (sizes_of c) [] → CallAs o c d r
unfolding columns_after
refused-call o c d r e answer clear = record { answer = answer ∙ sym (ap verdict e); cells = clear ∙ sym (ap (columns_after (sizes_of c) (λ rows. rows)) e) }

module _ (schema : TextRecord) (bs : List ℕ) (c d : Columns) (r : Result ℕ Refusal) where
  pub call-no-record : passes_schema schema ≡ false → r ≡ Err (refusal BadRecord 0) → d ≡ columns_of (sizes_of c) [] → CallAs (extract_read schema bs (sizes_of c)) c d r
  call-no-record p = refused-call _ c d r (no_record schema bs (sizes_of c) p)

  pub call-no-columns : passes_schema schema ≡ true → equal_sizes (sizes_of c) ≡ false → r ≡ Err (refusal BadRecord 0) → d ≡ columns_of (sizes_of c) []
      → CallAs (extract_read schema bs (sizes_of c)) c d r
  call-no-columns p e = refused-call _ c d r (no-columns schema bs (sizes_of c) p e)

  pub call-read : passes_schema schema ≡ true → equal_sizes (sizes_of c) ≡ true → (words : List ℕ) → HeldWords (types_of (schema_in (text_in schema))) words → TableRead bs words c d r
      → CallAs (extract_read schema bs (sizes_of c)) c d r
  call-read p e words h t =
      let same = sym (read-outcome schema bs (sizes_of c) p e) in
      let w = read-words (text_in schema) words h in
      record {
        answer = t.answer (schema_in (text_in schema)) w ∙ ap verdict same;
        cells = t.cells (schema_in (text_in schema)) w ∙ ap (columns_after (sizes_of c) (λ rows. rows)) same;
      }
