-- A table that is handed in as row structs holds what the columns hold in which they are laid, and nothing where it has more rows than a table can have.
use Rattle.std.specs.Prelude.{Bool, cond, ◌&&◌, ◌≡◌, ℕ, suc, ◌+◌, ◌<◌, ◌≤◌, T, leb, ltb, get_or}
use Rattle.std.proofs.Math.Bool.{true, false, not}
use mathlib.Core.List.{List, [], ◌∷◌}
use Rattle.std.proofs.Math.Option.{Option, none, some}
use Rattle.std.proofs.Math.Path.{refl, sym, ap}
use Rattle.std.proofs.Common.{ap₂, subst, ◌∙◌, arith, le→leb, ltb-true, ltb-false, length-take-le}
use Rattle.std.proofs.Math.ListN.{length, get_or-map}
use Rattle.std.proofs.lemmas.List.{length-map}
use Rattle.handed_tables.specs.calls.Calls.{beside-some, table-holds}
use Rattle.handed_tables.specs.columns.Rows.{lent-cells, lent-size, lent-columns}
use Rattle.library_spec.specs.Calls.{table_of_cells}
use Rattle.library_spec.specs.Records.{LentTable, rows_lent, kept_if, table_held, table_beside}
use Rattle.row_structs.specs.Structs.{empty_cells, cell_count, Laid}
use Rattle.row_structs.specs.laws.Answers.{equal-sizes}
use Rattle.schema_spec.specs.Schemas.{Schema}
use Rattle.schema_spec.specs.Types.{types_of}
use Rattle.table_laws.specs.WellFormed.{well-formed-alone}
use Rattle.table_spec.specs.Columns.{Columns, Sizes, all_of_size, equal_sizes, sizes_of, cells_at, cells_from}
use Rattle.table_spec.specs.Rows.{Row, Cells, rows_of}
use Rattle.table_spec.specs.Tables.{well_formed, well_formed_with}
use Rattle.tables.specs.Handed.{is_held}
use Rattle.text_laws.specs.Tests.{true_of}
use Rattle.text_spec.specs.Limits.{max_nodes}
use Rattle.text_spec.specs.Lists.{is_none}

-- ---- the rows in columns of one size
rows-lent : (t : LentTable) (n : ℕ) → sizes_of t.columns ≡ all_of_size n → t.count ≤ n → rows_lent t ≡ rows_of (cells_from t.columns 0 t.count)
rows-lent t n e l =
    let held = rows_of (cells_from t.columns 0 t.count) in
    ap (λ (z : Sizes). cond (equal_sizes z && leb t.count z.numbers) held none) e
    ∙ ap (λ (b : Bool). cond (b && leb t.count n) held none) (equal-sizes n)
    ∙ ap (λ (b : Bool). cond b held none) (true_of (leb t.count n) (le→leb t.count n l))

-- cells that are those of structs
cells_are : (c : Columns) (i : ℕ) (rows : List Cells) → ((k : ℕ) → k < length rows → cells_at c (i + k) ≡ get_or rows k empty_cells) → cells_from c i (length rows) ≡ rows
cells_are c i [] h = refl
cells_are c i (r ∷ rows) h =
    let here : i + 0 ≡ i = omega arith in
    ap₂ (λ (x : Cells) (l : List Cells). x ∷ l) (subst (λ (j : ℕ). cells_at c j ≡ r) here (h 0 (omega arith)))
    (cells_are c (suc i) rows
    (λ k l.
    let there : i + suc k ≡ suc i + k = omega arith in
    subst (λ (j : ℕ). cells_at c j ≡ get_or rows k empty_cells) there (h (suc k) (omega arith))))

-- columns with a cell for each row
pub sizes-of : (c : Columns) → length c.numbers ≡ cell_count → length c.names ≡ cell_count → length c.parents ≡ cell_count → length c.starts ≡ cell_count
    → length c.lengths ≡ cell_count → length c.decoded ≡ cell_count → sizes_of c ≡ all_of_size cell_count
sizes-of c a b d e f g = rw (a, b, d, e, f, g)

-- ---- structs as a table
module _ (rows : List Cells) where
  abbrev held : Columns
  held = (table_of_cells rows).columns

  structs-sizes : sizes_of held ≡ all_of_size (length rows)
  structs-sizes =
      rw (
        length-map rows (λ c. c.number),
        length-map rows (λ c. c.name),
        length-map rows (λ c. c.parent),
        length-map rows (λ c. c.start),
        length-map rows (λ c. c.size),
        length-map rows (λ c. c.decoded),
      )

  struct_at : (k : ℕ) → cells_at held k ≡ get_or rows k empty_cells
  struct_at k =
      rw (
        get_or-map (λ c. c.number) rows k empty_cells,
        get_or-map (λ c. c.name) rows k empty_cells,
        get_or-map (λ c. c.parent) rows k empty_cells,
        get_or-map (λ c. c.start) rows k empty_cells,
        get_or-map (λ c. c.size) rows k empty_cells,
        get_or-map (λ c. c.decoded) rows k empty_cells,
      )

  structs-rows : rows_lent (table_of_cells rows) ≡ rows_of rows
  structs-rows =
      rows-lent (table_of_cells rows) (length rows) structs-sizes (omega arith)
      ∙ ap rows_of (cells_are held 0 rows (λ k l. let z : 0 + k ≡ k = omega arith in ap (cells_at held) z ∙ struct_at k))

-- ---- laid in columns
module _ (c : Columns) (count : ℕ) (sizes : sizes_of c ≡ all_of_size cell_count) (rows : List Cells) (long : length rows ≡ count) (laid : Laid rows c) (few : count ≤ max_nodes) where
  abbrev given : LentTable
  given = record { columns = c; count = count }

  same_rows : rows_lent given ≡ rows_lent (table_of_cells rows)
  same_rows =
      rows-lent given cell_count sizes (omega arith) ∙ ap (λ (n : ℕ). rows_of (cells_from c 0 n)) (sym long)
      ∙ ap rows_of (cells_are c 0 rows (λ k l. let z : 0 + k ≡ k = omega arith in ap (cells_at c) z ∙ laid k l (omega arith))) ∙ sym (structs-rows rows)

  pub same-held : (s : Schema) → table_held s given ≡ table_held s (table_of_cells rows)
  unfolding table_held
  same-held s = ap (kept_if (well_formed (types_of s))) same_rows

  pub same_beside : (s : Schema) (lent : List ℕ) → table_beside s lent given ≡ table_beside s lent (table_of_cells rows)
  unfolding table_beside
  same_beside s lent = ap (kept_if (well_formed_with (types_of s) lent)) same_rows

-- ---- too many rows
module _ (s : Schema) (t : LentTable) where
  rows_few : (rows : List Row) → rows_lent t ≡ some rows → T (well_formed (types_of s) rows) → t.count ≤ max_nodes
  rows_few rows e ok =
      omega (arith, (lent-columns t rows e s ok).few, length-take-le t.count t.columns.parents (lent-cells t rows e).parented)

  -- the rows that it holds are no more than a table can have
  pub held-few : (rows : List Row) → table_held s t ≡ some rows → length rows ≤ max_nodes
  unfolding is_held
  held-few rows e =
      let h = table-holds s t (ap (λ (o : Option (List Row)). not (is_none o)) e) in
      let same : some h.0 ≡ some rows = sym h.1.held ∙ e in
      let size : h.0 ≡ rows = cc in
      omega (arith, rows_few h.0 h.1.lent h.1.passes, lent-size t h.0 h.1.lent, ap (λ (l : List Row). length l) size)

  module _ (many : max_nodes < t.count) where
    pub none-held : table_held s t ≡ none
    unfolding is_held
    none-held = by (table_held s t) refl
      where
        by : (o : Option (List Row)) → table_held s t ≡ o → o ≡ none
        by none e = refl
        by (some rows) e =
            let h = table-holds s t (ap (λ (o : Option (List Row)). not (is_none o)) e) in
            absurd (omega (arith, rows_few h.0 h.1.lent h.1.passes))

    pub none_beside : (lent : List ℕ) → table_beside s lent t ≡ none
    none_beside lent = by (table_beside s lent t) refl
      where
        by : (o : Option (List Row)) → table_beside s lent t ≡ o → o ≡ none
        by none e = refl
        by (some rows) e =
            let h = beside-some s lent t rows e in
            absurd (omega (arith, rows_few rows h.0 (well-formed-alone (types_of s) lent rows h.1)))

-- ---- laid in columns, few or many
module _ (c : Columns) (count : ℕ) (sizes : sizes_of c ≡ all_of_size cell_count) (rows : List Cells) (long : length rows ≡ count) (laid : Laid rows c) (s : Schema) where
  abbrev columns_laid : LentTable
  columns_laid = record { columns = c; count = count }

  pub held-laid : table_held s columns_laid ≡ table_held s (table_of_cells rows)
  held-laid = by (ltb max_nodes count) refl
    where
      by : (b : Bool) → ltb max_nodes count ≡ b → table_held s columns_laid ≡ table_held s (table_of_cells rows)
      by true e = let many = ltb-true max_nodes count e in none-held s columns_laid many ∙ sym (none-held s (table_of_cells rows) (omega (arith, many, long)))
      by false e = same-held c count sizes rows long laid (ltb-false max_nodes count e) s

  pub beside-laid : (lent : List ℕ) → table_beside s lent columns_laid ≡ table_beside s lent (table_of_cells rows)
  beside-laid lent = by (ltb max_nodes count) refl
    where
      by : (b : Bool) → ltb max_nodes count ≡ b → table_beside s lent columns_laid ≡ table_beside s lent (table_of_cells rows)
      by true e =
          let many = ltb-true max_nodes count e in
          none_beside s columns_laid many lent ∙ sym (none_beside s (table_of_cells rows) (omega (arith, many, long)) lent)
      by false e = same_beside c count sizes rows long laid (ltb-false max_nodes count e) s lent
