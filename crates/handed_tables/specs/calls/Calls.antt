-- Calls that are handed a schema's record and a table: refusal 1 of either, or what is said of the rows that the table holds.
use Rattle.std.specs.Prelude.{Bool, true, cond, List, ◌≡◌, T, ℕ}
use Rattle.std.proofs.Math.Bool.{false, not}
use Rattle.std.proofs.Math.Option.{Option, none, some}
use Rattle.std.proofs.Math.Path.{refl, ap}
use Rattle.std.proofs.Common.{subst}
use Rattle.library_spec.specs.Records.{LentTable, schema_held, rows_lent, kept_if, table_held, passes_schema, table_beside}
use Rattle.schema_spec.specs.Records.{schema_in}
use Rattle.schema_spec.specs.Schemas.{Schema}
use Rattle.schema_spec.specs.Types.{types_of}
use Rattle.table_spec.specs.Rows.{Row}
use Rattle.table_spec.specs.Tables.{well_formed, well_formed_with}
use Rattle.tables.specs.Handed.{is_held}
use Rattle.text_laws.specs.Tests.{never, passed}
use Rattle.text_spec.specs.Calls.{handed}
use Rattle.text_spec.specs.Lists.{is_none}
use Rattle.text_spec.specs.Records.{TextRecord, text_in}
use Rattle.text_spec.specs.Refusals.{Outcome, refused, at, bad_record}

-- the rows that a table holds: those in its columns, well formed
pub record Holds (s : Schema) (t : LentTable) (rows : List Row) : Type 0 where
  pub held : table_held s t ≡ some rows
  pub lent : rows_lent t ≡ some rows
  pub passes : T (well_formed (types_of s) rows)

kept-some : (test : List Row → Bool) (o : Option (List Row)) (rows : List Row) → kept_if test o ≡ some rows → (o ≡ some rows) × T (test rows)
kept-some test none rows e = never (cc)
kept-some test (some xs) rows e = pick (test xs) refl e
  where
    pick : (b : Bool) → test xs ≡ b → cond b (some xs) none ≡ some rows → (some xs ≡ some rows) × T (test rows)
    pick true q f = let same : xs ≡ rows = cc in (f, subst (λ (x : List Row). T (test x)) same (passed q))
    pick false q f = never (cc)

table-some : (s : Schema) (t : LentTable) (rows : List Row) → table_held s t ≡ some rows → (rows_lent t ≡ some rows) × T (well_formed (types_of s) rows)
unfolding table_held
table-some s t rows e = kept-some (well_formed (types_of s)) (rows_lent t) rows e

-- the same beside a text
pub beside-some : (s : Schema) (lent : List ℕ) (t : LentTable) (rows : List Row) → table_beside s lent t ≡ some rows → (rows_lent t ≡ some rows) × T (well_formed_with (types_of s) lent rows)
unfolding table_beside
beside-some s lent t rows e = kept-some (well_formed_with (types_of s) lent) (rows_lent t) rows e

-- a table that passes its test holds rows
pub table-holds : (s : Schema) (t : LentTable) → is_held s t ≡ true → (rows : List Row) × Holds s t rows
unfolding is_held
table-holds s t e = pick (table_held s t) refl e
  where
    pick : (o : Option (List Row)) → table_held s t ≡ o → not (is_none o) ≡ true → (rows : List Row) × Holds s t rows
    pick none q f = never (cc)
    pick (some rows) q f = let k = table-some s t rows q in (rows, record { held = q; lent = k.0; passes = k.1 })

-- ---- refusal 1 of the record
module _ {A : Type 0} (schema : TextRecord) (rest : Schema → Outcome A) where
  by-record : (b : Bool) → passes_schema schema ≡ b → handed (schema_held schema) rest ≡ handed (cond b (some (schema_in (text_in schema))) none) rest
  unfolding schema_held
  by-record b e = ap (λ (x : Bool). handed (cond x (some (schema_in (text_in schema))) none) rest) e

  pub record-refused : passes_schema schema ≡ false → handed (schema_held schema) rest ≡ refused (at bad_record 0)
  record-refused e = by-record false e

  pub record-held : passes_schema schema ≡ true → handed (schema_held schema) rest ≡ rest (schema_in (text_in schema))
  record-held e = by-record true e

-- ---- refusal 1 of the table
module _ {A : Type 0} (s : Schema) (t : LentTable) (rest : List Row → Outcome A) where
  pub table-refused : is_held s t ≡ false → handed (table_held s t) rest ≡ refused (at bad_record 0)
  unfolding is_held
  table-refused e = pick (table_held s t) e
    where
      pick : (o : Option (List Row)) → not (is_none o) ≡ false → handed o rest ≡ refused (at bad_record 0)
      pick none f = refl
      pick (some rows) f = never (cc)

  pub table-held : (rows : List Row) → Holds s t rows → handed (table_held s t) rest ≡ rest rows
  table-held rows h = ap (λ (o : Option (List Row)). handed o rest) h.held
