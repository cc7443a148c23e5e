-- A table that is handed in as lent columns holds rows exactly if the passes over its columns say so.
use Rattle.std.specs.Prelude.{Bool, true, false, cond, not, ◌&&◌, List, ◌≡◌, refl, ℕ, eqb, leb, length}
use Rattle.std.proofs.Math.Bool.{and_assoc}
use Rattle.std.proofs.Math.Option.{Option, none, some}
use Rattle.std.proofs.Math.Path.{sym}
use Rattle.std.proofs.Common.{ap, ap₂, ◌∙◌, arith, eqb→eq, leb→le}
use Rattle.cells.specs.columns.Lent.{read_columns}
use Rattle.cells.specs.declared.columns.Columns as reading
use Rattle.library_spec.specs.Records.{LentTable, rows_lent, kept_if, table_held, table_beside}
use Rattle.schema_spec.specs.Schemas.{Schema}
use Rattle.schema_spec.specs.Types.{types_of}
use Rattle.table_laws.specs.passes.Codes.{HeldWords}
use Rattle.table_laws.specs.passes.Passes.{rows_pass}
use Rattle.table_laws.specs.passes.Tables.{passes_rows, rows_pass_lem}
use Rattle.table_laws.specs.passes.Texts.{beside-pass}
use Rattle.table_spec.specs.Columns.{sizes_of, equal_sizes, cells_from}
use Rattle.table_spec.specs.Rows.{Row, rows_of}
use Rattle.table_spec.specs.Tables.{well_formed, well_formed_with}
use Rattle.tables.specs.rows.Lent.{Lent}
use Rattle.tables.specs.text_ranges.Left.{texts_in}
use Rattle.text_laws.specs.Tests.{passed, and_cases}
use Rattle.text_spec.specs.Lists.{is_none}

-- ---- definitions
-- the table in columns that are read
abbrev pub read_table : reading.Columns → ℕ → LentTable
read_table t count = record { columns = read_columns t; count = count }

-- the table holds rows: alone, and beside a text
unfoldable pub is_held : Schema → LentTable → Bool
is_held s t = not (is_none (table_held s t))

unfoldable pub is_beside : Schema → List ℕ → LentTable → Bool
is_beside s lent t = not (is_none (table_beside s lent t))

-- ---- laws
kept-some : (test : List Row → Bool) (o : Option (List Row)) → passes_rows test o ≡ not (is_none (kept_if test o))
kept-some test none = refl
kept-some test (some rows) = pick (test rows)
  where
    pick : (b : Bool) → b ≡ not (is_none (cond b (some rows) none))
    pick true = refl
    pick false = refl

abbrev pub sizes_fit : LentTable → Bool
sizes_fit t = equal_sizes (sizes_of t.columns) && leb t.count (length t.columns.numbers)

-- columns of unequal length, or too many rows
unfit : (test : List Row → Bool) (t : LentTable) → sizes_fit t ≡ false → not (is_none (kept_if test (rows_lent t))) ≡ false
unfit test t e = ap (λ (b : Bool). not (is_none (kept_if test (cond b (rows_of (cells_from t.columns 0 t.count)) none)))) e

fit : (test : List Row → Bool) (t : LentTable) → sizes_fit t ≡ true → not (is_none (kept_if test (rows_lent t))) ≡ passes_rows test (rows_of (cells_from t.columns 0 t.count))
fit test t e =
    ap (λ (b : Bool). not (is_none (kept_if test (cond b (rows_of (cells_from t.columns 0 t.count)) none)))) e ∙ sym (kept-some test (rows_of (cells_from t.columns 0 t.count)))

-- each column has a cell for each row
pub fit-lent : (t : LentTable) → sizes_fit t ≡ true → Lent t.columns t.count
fit-lent t e =
    let z = sizes_of t.columns in
    let n = z.numbers in
    let last = eqb z.lengths n && eqb z.decoded n in
    let c₀ = and_cases (equal_sizes z) (leb t.count n) (passed e) in
    let c₁ = and_cases (eqb z.names n) (eqb z.parents n && (eqb z.starts n && last)) c₀.0 in
    let c₂ = and_cases (eqb z.parents n) (eqb z.starts n && last) c₁.1 in
    let c₃ = and_cases (eqb z.starts n) last c₂.1 in
    let c₄ = and_cases (eqb z.lengths n) (eqb z.decoded n) c₃.1 in
    let most = leb→le t.count n c₀.1 in
    record {
      numbered = most;
      named = omega (arith, eqb→eq z.names n c₁.0);
      parented = omega (arith, eqb→eq z.parents n c₂.0);
      started = omega (arith, eqb→eq z.starts n c₃.0);
      sized = omega (arith, eqb→eq z.lengths n c₄.0);
      measured = omega (arith, eqb→eq z.decoded n c₄.1);
    }

-- the tests of the code, in their order
module _ (words : List ℕ) (t : LentTable) (s : Schema) (hw : HeldWords (types_of s) words) where
  pub held-tests : (sizes rows : Bool) → sizes ≡ sizes_fit t → rows ≡ rows_pass words t.columns t.count → (sizes && rows) ≡ is_held s t
  unfolding is_held table_held
  held-tests sizes rows e f = ap₂ ◌&&◌ e f ∙ by (sizes_fit t) refl
    where
      by : (b : Bool) → sizes_fit t ≡ b → (b && rows_pass words t.columns t.count) ≡ not (is_none (kept_if (well_formed (types_of s)) (rows_lent t)))
      by true q = rows_pass_lem (types_of s) words hw t.columns t.count ∙ sym (fit (well_formed (types_of s)) t q)
      by false q = sym (unfit (well_formed (types_of s)) t q)

  pub beside-tests : (lent : List ℕ) (sizes rows texts : Bool) → sizes ≡ sizes_fit t → rows ≡ rows_pass words t.columns t.count → texts ≡ texts_in lent t.columns t.count
      → (sizes && (rows && texts)) ≡ is_beside s lent t
  unfolding is_beside table_beside
  beside-tests lent sizes rows texts e f g = ap₂ ◌&&◌ e (ap₂ ◌&&◌ f g) ∙ by (sizes_fit t) refl
    where
      by : (b : Bool) → sizes_fit t ≡ b → (b && (rows_pass words t.columns t.count && texts_in lent t.columns t.count)) ≡ not (is_none (kept_if (well_formed_with (types_of s) lent) (rows_lent t)))
      by true q = beside-pass (types_of s) words hw t.columns lent t.count ∙ sym (fit (well_formed_with (types_of s) lent) t q)
      by false q = sym (unfit (well_formed_with (types_of s) lent) t q)

  pub beside-held : (lent : List ℕ) (held texts : Bool) → held ≡ is_held s t → texts ≡ texts_in lent t.columns t.count → (held && texts) ≡ is_beside s lent t
  beside-held lent held texts e f =
      ap (λ (b : Bool). b && texts) (e ∙ sym (held-tests (sizes_fit t) (rows_pass words t.columns t.count) refl refl))
      ∙ and_assoc (sizes_fit t) (rows_pass words t.columns t.count) texts ∙ beside-tests lent (sizes_fit t) (rows_pass words t.columns t.count) texts refl refl f
