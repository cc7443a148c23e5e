-- The columns of a table that is handed in are those of its rows, and are those of a tested table.
use Rattle.std.specs.Prelude.{Bool, true, false, cond, List, [], ◌∷◌, map, ◌≡◌, refl, ℕ, zero, suc, ◌+◌, ◌-◌, ◌≤◌, T, leb, ltb, length, get_or, take, drop}
use Rattle.std.proofs.Math.Option.{Option, none, some}
use Rattle.std.proofs.Common.{sym, ap, ap₂, subst, ◌∙◌, arith, ltb-false, drop-cons}
use Rattle.cells.specs.columns.ColumnLaws.{equal-columns}
use Rattle.cells.specs.columns.Columns.{EqualColumns}
use Rattle.cells.specs.lent.Columns.{first_cells, same-columns}
use Rattle.kept_rows.specs.laws.Cut.{columns_in}
use Rattle.library_spec.specs.Records.{LentTable, rows_lent}
use Rattle.schema_spec.specs.Names.{Name, element, text, code_of, name_of_code}
use Rattle.schema_spec.specs.Schemas.{Schema}
use Rattle.schema_spec.specs.Types.{types_of}
use Rattle.table_laws.specs.Codes.{NamesCoded, cells-coded}
use Rattle.table_laws.specs.Columns.{parents_of, numbers_of, codes_of, tested-columns, TestedColumns, codes-map}
use Rattle.table_laws.specs.Places.{none-some}
use Rattle.table_laws.specs.passes.Tables.{rows-stand}
use Rattle.table_spec.specs.Columns.{Columns, sizes_of, equal_sizes, cells_at, cells_from}
use Rattle.table_spec.specs.Rows.{Row, row, Cells, row_with, row_of, cons_of, rows_of}
use Rattle.table_spec.specs.Tables.{well_formed}
use Rattle.tables.specs.Handed.{sizes_fit, fit-lent}
use Rattle.tables.specs.rows.Lent.{Lent}
use Rattle.text_laws.specs.Tests.{passed, and_cases}
use Rattle.text_spec.specs.Limits.{max_declarations}

-- ---- a row and its cells
code-again : (c : ℕ) (n : Name) → name_of_code c ≡ some n → code_of n ≡ c
code-again c n e = as-element (ltb c max_declarations) refl e
  where
    as-text : (b : Bool) → ltb c (max_declarations + max_declarations) ≡ b → max_declarations ≤ c → cond b (some (text (c - max_declarations))) none ≡ some n → code_of n ≡ c
    as-text true q l d =
        let z : text (c - max_declarations) ≡ n = cc in
        subst (λ (m : Name). code_of m ≡ c) z (omega arith)
    as-text false q l d = none-some d

    as-element : (b : Bool) → ltb c max_declarations ≡ b
        → cond b (some (element c)) (cond (ltb c (max_declarations + max_declarations)) (some (text (c - max_declarations))) none) ≡ some n → code_of n ≡ c
    as-element true q d =
        let z : element c ≡ n = cc in
        subst (λ (m : Name). code_of m ≡ c) z refl
    as-element false q d = as-text (ltb c (max_declarations + max_declarations)) refl (ltb-false c max_declarations q) d

pub record CellsOf (c : Cells) (r : Row) : Type 0 where
  pub number : r.number ≡ c.number
  pub name : code_of r.name ≡ c.name
  pub parent : r.parent ≡ c.parent
  pub start : r.start ≡ c.start
  pub size : r.size ≡ c.size
  pub decoded : r.decoded ≡ c.decoded

cells_of : (c : Cells) (r : Row) → row_of c ≡ some r → CellsOf c r
cells_of c r e = by (name_of_code c.name) refl e
  where
    by : (o : Option Name) → name_of_code c.name ≡ o → row_with c o ≡ some r → CellsOf c r
    by none q d = none-some d
    by (some n) q d =
        let z : row c.number n c.parent c.start c.size c.decoded ≡ r = cc in
        subst (CellsOf c) z (record { number = refl; name = code-again c.name n q; parent = refl; start = refl; size = refl; decoded = refl })

-- ---- a column by its rows
column-from : (c : Columns) (f : Row → ℕ) (xs : List ℕ) → ((i : ℕ) (r : Row) → row_of (cells_at c i) ≡ some r → f r ≡ get_or xs i 0)
    → (n i : ℕ) (rows : List Row) → i + n ≤ length xs → rows_of (cells_from c i n) ≡ some rows → map f rows ≡ take n (drop i xs)
column-from c f xs h zero i rows l e =
    let z : [] ≡ rows = cc in
    subst (λ (rs : List Row). map f rs ≡ take 0 (drop i xs)) z refl
column-from c f xs h (suc n) i rows l e =
    by (row_of (cells_at c i)) (rows_of (cells_from c (suc i) n)) refl (λ rs q. column-from c f xs h n (suc i) rs (omega arith) q) refl e
  where
    by : (o : Option Row) (os : Option (List Row)) → row_of (cells_at c i) ≡ o → ((rs : List Row) → rows_of (cells_from c (suc i) n) ≡ some rs → map f rs ≡ take n (drop (suc i) xs))
        → rows_of (cells_from c (suc i) n) ≡ os → cons_of o os ≡ some rows → map f rows ≡ take (suc n) (drop i xs)
    by none os p g q d = none-some d
    by (some r) none p g q d = none-some d
    by (some r) (some rs) p g q d =
        let z : r ∷ rs ≡ rows = cc in
        subst (λ (x : List Row). map f x ≡ take (suc n) (drop i xs)) z
        (ap₂ (λ (x : ℕ) (l : List ℕ). x ∷ l) (h i r p) (g rs q) ∙ sym (ap (take (suc n)) (drop-cons xs i 0 (omega arith))))

module _ (t : LentTable) (rows : List Row) (held : rows_lent t ≡ some rows) where
  sizes-fit : sizes_fit t ≡ true
  sizes-fit = by (sizes_fit t) refl held
    where
      by : (b : Bool) → sizes_fit t ≡ b → cond b (rows_of (cells_from t.columns 0 t.count)) none ≡ some rows → sizes_fit t ≡ true
      by true q d = q
      by false q d = none-some d

  rows-held : rows_of (cells_from t.columns 0 t.count) ≡ some rows
  rows-held = sym (ap (λ (b : Bool). cond b (rows_of (cells_from t.columns 0 t.count)) none) sizes-fit) ∙ held

  pub lent-numbers : numbers_of rows ≡ take t.count t.columns.numbers
  lent-numbers =
      let room = (fit-lent t sizes-fit).numbered in
      column-from t.columns (λ r. r.number) t.columns.numbers (λ i r e. (cells_of (cells_at t.columns i) r e).number) t.count 0 rows (omega arith) rows-held

  pub lent-codes : codes_of rows ≡ take t.count t.columns.names
  lent-codes =
      let room = (fit-lent t sizes-fit).named in
      codes-map rows
      ∙ column-from t.columns (λ r. code_of r.name) t.columns.names (λ i r e. (cells_of (cells_at t.columns i) r e).name) t.count 0 rows (omega arith) rows-held

  pub lent-parents : parents_of rows ≡ take t.count t.columns.parents
  lent-parents =
      let room = (fit-lent t sizes-fit).parented in
      column-from t.columns (λ r. r.parent) t.columns.parents (λ i r e. (cells_of (cells_at t.columns i) r e).parent) t.count 0 rows (omega arith) rows-held

  pub lent-starts : map (λ r. r.start) rows ≡ take t.count t.columns.starts
  lent-starts =
      let room = (fit-lent t sizes-fit).started in
      column-from t.columns (λ r. r.start) t.columns.starts (λ i r e. (cells_of (cells_at t.columns i) r e).start) t.count 0 rows (omega arith) rows-held

  pub lent-lengths : map (λ r. r.size) rows ≡ take t.count t.columns.lengths
  lent-lengths =
      let room = (fit-lent t sizes-fit).sized in
      column-from t.columns (λ r. r.size) t.columns.lengths (λ i r e. (cells_of (cells_at t.columns i) r e).size) t.count 0 rows (omega arith) rows-held

  pub lent-decoded : map (λ r. r.decoded) rows ≡ take t.count t.columns.decoded
  lent-decoded =
      let room = (fit-lent t sizes-fit).measured in
      column-from t.columns (λ r. r.decoded) t.columns.decoded (λ i r e. (cells_of (cells_at t.columns i) r e).decoded) t.count 0 rows (omega arith) rows-held

  -- each row has a name that a code can stand for, and a cell in each column
  pub lent-coded : NamesCoded rows
  lent-coded = cells-coded (cells_from t.columns 0 t.count) rows rows-held

  pub lent-cells : Lent t.columns t.count
  lent-cells = fit-lent t sizes-fit

  -- the columns are of one length
  pub lent-equal : EqualColumns t.columns
  lent-equal = equal-columns t.columns (and_cases (equal_sizes (sizes_of t.columns)) (leb t.count (length t.columns.numbers)) (passed sizes-fit)).0

  pub lent-size : length rows ≡ t.count
  lent-size = (rows-stand t.columns 0 t.count rows rows-held).size

  -- the columns up to the count
  pub held-columns : columns_in rows ≡ first_cells t.count t.columns
  held-columns = same-columns lent-numbers (sym (codes-map rows) ∙ lent-codes) lent-parents lent-starts lent-lengths lent-decoded

  pub lent-columns : (s : Schema) → T (well_formed (types_of s) rows)
      → TestedColumns (take t.count t.columns.numbers) (take t.count t.columns.names) (take t.count t.columns.parents)
  lent-columns s ok =
      rw (← lent-numbers, ← lent-codes, ← lent-parents) (tested-columns (types_of s) rows ok lent-coded)
