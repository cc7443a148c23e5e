-- The library's outcome of writing an extract, stage by stage: the record, the table beside its text, the bytes.
use Rattle.std.specs.Prelude.{Bool, cond, ◌≡◌, ℕ, ◌≤◌, T, length}
use Rattle.std.proofs.Math.Bool.{true, false, not}
use mathlib.Core.List.{List}
use Rattle.std.proofs.Math.Option.{Option, none, some}
use Rattle.std.proofs.Math.Path.{refl, sym, ap}
use Rattle.std.proofs.Common.{◌∙◌}
use Rattle.std.proofs.lemmas.List.{length-map}
use Rattle.cells.specs.columns.Columns.{EqualColumns}
use Rattle.cells.specs.lent.Columns.{first_cells}
use Rattle.cells.specs.row_sets.Columns.{marks}
use Rattle.cells.specs.verdicts.Verdicts.{in_bytes}
use Rattle.extract_spec.specs.Fields.{write_extract}
use Rattle.extract_writer.specs.asked.Asked.{text-columns}
use Rattle.extract_writer.specs.row_laws.Written.{table-extract}
use Rattle.extract_writer.specs.rows.Rows.{ExtractColumns}
use Rattle.extract_writer.specs.writing.Extract.{extract_in}
use Rattle.handed_tables.specs.calls.Calls.{beside-some}
use Rattle.handed_tables.specs.columns.Rows.{lent-coded, lent-cells, lent-equal, held-columns}
use Rattle.kept_rows.specs.laws.Codes.{codes-named}
use Rattle.kept_rows.specs.laws.Cut.{columns_in}
use Rattle.library_spec.specs.Calls.{extract_written}
use Rattle.library_spec.specs.Records.{LentTable, schema_held, rows_lent, table_beside, passes_schema}
use Rattle.schema_spec.specs.Records.{schema_in}
use Rattle.schema_spec.specs.Schemas.{Schema}
use Rattle.schema_spec.specs.Types.{types_of}
use Rattle.table_laws.specs.WellFormed.{well-formed-alone}
use Rattle.table_spec.specs.Columns.{Columns}
use Rattle.table_spec.specs.Rows.{Row}
use Rattle.table_spec.specs.Tables.{well_formed_with}
use Rattle.tables.specs.Handed.{is_beside}
use Rattle.text_laws.specs.Tests.{never}
use Rattle.text_spec.specs.Calls.{handed}
use Rattle.text_spec.specs.Lists.{is_none}
use Rattle.text_spec.specs.Records.{TextRecord, text_in}
use Rattle.text_spec.specs.Refusals.{Outcome, refused, at, bad_record}

-- ---- the rows of a table beside a text
module _ (s : Schema) (lent : List ℕ) (t : LentTable) (beside : is_beside s lent t ≡ true) where
  found : (rows : List Row) × (table_beside s lent t ≡ some rows)
  unfolding is_beside
  found = pick (table_beside s lent t) refl beside
    where
      pick : (o : Option (List Row)) → table_beside s lent t ≡ o → not (is_none o) ≡ true → (rows : List Row) × (table_beside s lent t ≡ some rows)
      pick none q f = never (cc)
      pick (some rows) q f = (rows, q)

  abbrev rows : List Row
  rows = found.0

  held : (rows_lent t ≡ some rows) × T (well_formed_with (types_of s) lent rows)
  held = beside-some s lent t rows found.1

  -- the columns up to the count
  abbrev columns : Columns
  columns =
      first_cells t.count t.columns

  same : columns_in rows ≡ columns
  same = held-columns t rows held.0

  long : length rows ≡ length columns.numbers
  long = sym (length-map rows (λ r. r.number)) ∙ ap (λ (c : Columns). length c.numbers) same

  -- they can be taken
  pub table-equal : EqualColumns t.columns
  table-equal = lent-equal t rows held.0

  pub table-room : t.count ≤ length t.columns.numbers
  table-room = (lent-cells t rows held.0).numbered

  pub table-columns : ExtractColumns lent columns (length columns.numbers)
  table-columns = rw (← same, ← long) (text-columns (types_of s) lent rows held.1 (lent-coded t rows held.0))

  rows_written : extract_in lent columns (marks (length columns.numbers) (λ r. true)) ≡ write_extract lent rows
  rows_written =
      ap (λ (n : ℕ). extract_in lent columns (marks n (λ r. true))) (sym long) ∙ ap (λ (c : Columns). extract_in lent c (marks (length rows) (λ r. true))) (sym same)
      ∙ table-extract (types_of s) lent rows (well-formed-alone (types_of s) lent rows held.1) (codes-named rows (lent-coded t rows held.0))

-- ---- the outcome by the record and by the table
abbrev after_table : Option (List Row) → List ℕ → ℕ → Outcome (List ℕ)
after_table o lent size = handed o (λ rows. in_bytes size (write_extract lent rows))

module _ (schema : TextRecord) (t : LentTable) (lent : List ℕ) (size : ℕ) where
  abbrev s : Schema
  s = schema_in (text_in schema)

  pub no_record : passes_schema schema ≡ false → refused (at bad_record 0) ≡ extract_written schema t lent size
  unfolding extract_written schema_held
  no_record e = sym (ap (λ (b : Bool). handed (cond b (some s) none) (λ z. after_table (table_beside z lent t) lent size)) e)

  module _ (passes : passes_schema schema ≡ true) where
    by-table : after_table (table_beside s lent t) lent size ≡ extract_written schema t lent size
    unfolding extract_written schema_held
    by-table = sym (ap (λ (b : Bool). handed (cond b (some s) none) (λ z. after_table (table_beside z lent t) lent size)) passes)

    pub no_table : is_beside s lent t ≡ false → refused (at bad_record 0) ≡ extract_written schema t lent size
    unfolding is_beside
    no_table e = pick (table_beside s lent t) refl e ∙ by-table
      where
        pick : (o : Option (List Row)) → table_beside s lent t ≡ o → not (is_none o) ≡ false → refused (at bad_record 0) ≡ after_table (table_beside s lent t) lent size
        pick none q f = ap (λ (x : Option (List Row)). after_table x lent size) (sym q)
        pick (some rows) q f = never (cc)

    pub table-written : (beside : is_beside s lent t ≡ true)
        → in_bytes size (extract_in lent (columns s lent t beside) (marks (length (columns s lent t beside).numbers) (λ r. true))) ≡ extract_written schema t lent size
    table-written beside =
        ap (in_bytes size) (rows_written s lent t beside) ∙ ap (λ (o : Option (List Row)). after_table o lent size) (sym (found s lent t beside).1) ∙ by-table
