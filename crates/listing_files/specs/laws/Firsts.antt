-- The first path that selects a row's node, and whether some path does, by the columns that the paths mark.
use Rattle.std.specs.Prelude.{Bool, ◌≡◌, ℕ, suc, ◌<◌, T, eqb, length, get_or}
use Rattle.std.proofs.Math.Bool.{true, false, cond, not, ◌||◌}
use mathlib.Core.List.{List, [], ◌∷◌, map}
use Rattle.std.proofs.Math.Path.{refl, sym, ap, ap₂}
use Rattle.std.proofs.Common.{◌∙◌, arith, ne_eqb}
use Rattle.axis_passes.specs.steps.Tests.{names_in}
use Rattle.cells.specs.row_sets.Columns.{is_marked}
use Rattle.library_spec.specs.Listing.{is_in, first_selecting}
use Rattle.listing_files.specs.laws.Numbers.{numbers-rise, in-picked}
use Rattle.path_spec.specs.Paths.{LocationPath}
use Rattle.path_spec.specs.Selection.{select, select_rows}
use Rattle.schema_spec.specs.Types.{Types}
use Rattle.selection.specs.first_paths.Firsts.{first_marked, columns_for}
use Rattle.selection.specs.laws.Selected.{marked-selected}
use Rattle.selection_laws.specs.marks.Selection.{path_marks}
use Rattle.table_laws.specs.Codes.{NamesCoded}
use Rattle.table_laws.specs.Columns.{parents_of, numbers_of, codes_of}
use Rattle.table_laws.specs.WellFormed.{table-means}
use Rattle.table_spec.specs.Nodes.{nodes_of}
use Rattle.table_spec.specs.Rows.{Row}
use Rattle.table_spec.specs.Tables.{well_formed}
use Rattle.text_spec.specs.Lists.{any_of}

some-place : (i : ℕ) → not (eqb (suc i) 0) ≡ true
some-place i = ap not (ne_eqb (suc i) 0 (λ e. omega arith))

module _ (s : Types) (lent : List ℕ) (rows : List Row) (ok : T (well_formed s rows)) (coded : NamesCoded rows) (r : ℕ) (inside : r < length (numbers_of rows)) where
  abbrev number : ℕ
  number = get_or (numbers_of rows) r 0

  abbrev columns : List (LocationPath ℕ) → List (List ℕ)
  columns paths = columns_for (parents_of rows) (codes_of rows) paths

  abbrev lists : List (LocationPath ℕ) → List (List ℕ)
  lists paths = map (select (nodes_of lent rows)) paths

  listed-marked : (p : LocationPath ℕ) → is_in number (select (nodes_of lent rows) p) ≡ is_marked (path_marks (parents_of rows) (names_in (codes_of rows)) p) r
  unfolding select_rows
  listed-marked p =
      ap (is_in number) (sym (marked-selected s lent rows p ok coded))
      ∙ in-picked 0 (path_marks (parents_of rows) (names_in (codes_of rows)) p) (numbers_of rows) (numbers-rise s rows (table-means s rows ok)) r inside

  pub some-selects : (i : ℕ) (paths : List (LocationPath ℕ)) → any_of (is_in number) (lists paths) ≡ not (eqb (first_marked (suc i) r (columns paths)) 0)
  unfolding first_marked
  some-selects i [] = refl
  some-selects i (p ∷ paths) =
      ap₂ ◌||◌ (listed-marked p) (some-selects (suc i) paths) ∙ by (is_marked (path_marks (parents_of rows) (names_in (codes_of rows)) p) r)
    where
      by : (b : Bool) → (b || not (eqb (first_marked (suc (suc i)) r (columns paths)) 0)) ≡ not (eqb (cond b (suc i) (first_marked (suc (suc i)) r (columns paths))) 0)
      by true = sym (some-place i)
      by false = refl

  pub first-selects : (i : ℕ) (paths : List (LocationPath ℕ)) → not (eqb (first_marked (suc i) r (columns paths)) 0) ≡ true
      → first_selecting (suc i) number (lists paths) ≡ first_marked (suc i) r (columns paths)
  unfolding first_marked
  first-selects i [] h = let z : false ≡ true = h in cc
  first-selects i (p ∷ paths) h =
      ap (λ (b : Bool). cond b (suc i) (first_selecting (suc (suc i)) number (lists paths))) (listed-marked p)
      ∙ by (is_marked (path_marks (parents_of rows) (names_in (codes_of rows)) p) r) h (first-selects (suc i) paths)
    where
      by : (b : Bool) → not (eqb (cond b (suc i) (first_marked (suc (suc i)) r (columns paths))) 0) ≡ true
          → (not (eqb (first_marked (suc (suc i)) r (columns paths)) 0) ≡ true → first_selecting (suc (suc i)) number (lists paths) ≡ first_marked (suc (suc i)) r (columns paths))
          → cond b (suc i) (first_selecting (suc (suc i)) number (lists paths)) ≡ cond b (suc i) (first_marked (suc (suc i)) r (columns paths))
      by true q onward = refl
      by false q onward = onward q
