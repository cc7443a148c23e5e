-- What a caller hands in: records of a schema and of a bundle, and tables in lent columns. Each holds something, or refusal 1 applies.
use Rattle.std.specs.Prelude.{Bool, cond, ◌&&◌, List, [], ℕ, leb, length}
use Rattle.std.proofs.Math.Option.{Option, none, some}
use Rattle.path_spec.specs.Paths.{LocationPath}
use Rattle.path_spec.specs.Reading.{read_bundle, is_bundle_record}
use Rattle.schema_spec.specs.Records.{schema_in, is_schema_record}
use Rattle.schema_spec.specs.Schemas.{Schema}
use Rattle.schema_spec.specs.Types.{types_of}
use Rattle.table_spec.specs.Columns.{Columns, sizes_of, equal_sizes, cells_from}
use Rattle.table_spec.specs.Rows.{Row, rows_of}
use Rattle.table_spec.specs.Tables.{well_formed, well_formed_with}
use Rattle.text_spec.specs.Limits.{max_schema_bytes, max_bundle_bytes}
use Rattle.text_spec.specs.Records.{TextRecord, text_in, is_record}
use Rattle.text_spec.specs.Refusals.{result_or}

-- "A record handed in is one that its reader can't produce": the schema's, and the bundle's under the schema handed in with it
unfoldable pub passes_schema : TextRecord → Bool
passes_schema r = is_record max_schema_bytes r && is_schema_record (text_in r)

unfoldable pub passes_bundle : Schema → TextRecord → Bool
passes_bundle s r = is_record max_bundle_bytes r && is_bundle_record s (text_in r)

-- what a record holds
unfoldable pub schema_held : TextRecord → Option Schema
schema_held r = cond (passes_schema r) (some (schema_in (text_in r))) none

unfoldable pub bundle_held : Schema → TextRecord → Option (List (LocationPath ℕ))
bundle_held s r = cond (passes_bundle s r) (some (result_or [] (read_bundle s (text_in r)))) none

-- A table that is handed in: lent columns, and how many of their cells are rows.
pub record LentTable : Type 0 where
  pub columns : Columns
  pub count : ℕ

-- its rows; none where columns are of unequal length, the count is above it, or a name's code is one that no name has
abbrev pub rows_lent : LentTable → Option (List Row)
rows_lent t =
    cond (equal_sizes (sizes_of t.columns) && leb t.count (length t.columns.numbers)) (rows_of (cells_from t.columns 0 t.count)) none

abbrev pub kept_if : {A : Type 0} → (A → Bool) → Option A → Option A
kept_if test none = none
kept_if test (some a) = cond (test a) (some a) none

-- "a table is not well formed"
unfoldable pub table_held : Schema → LentTable → Option (List Row)
table_held s t = kept_if (well_formed (types_of s)) (rows_lent t)

-- ", or a text row points outside its text or at a byte that fails 3": a table with the text lent beside it
unfoldable pub table_beside : Schema → List ℕ → LentTable → Option (List Row)
table_beside s lent t = kept_if (well_formed_with (types_of s) lent) (rows_lent t)
