-- What the code selects for the paths that are asked for is what the library's definition answers: the numbers joined, and the counts.
use mathlib.Core.List.{List, [], ◌∷◌, ◌++◌, map}
use Rattle.std.proofs.Math.Option.{some}
use Rattle.std.specs.Prelude.{◌≡◌, refl, ℕ, zero, suc, ◌+◌, ◌-◌, ◌<◌, T, length}
use Rattle.std.proofs.Common.{sym, ◌∙◌, arith}
use Rattle.std.proofs.Math.Path.{ap}
use Rattle.std.proofs.Math.ListN.{get_elem?}
use Rattle.axis_passes.specs.steps.Tests.{names_in}
use Rattle.compiled_paths.specs.Steps.{bundle_in}
use Rattle.compiled_paths.specs.Paths.{paths_in}
use Rattle.compiled_paths.specs.declared.CompiledPaths.{CompiledPaths}
use Rattle.library_spec.specs.Selections.{asked_paths, selections}
use Rattle.path_spec.specs.Paths.{LocationPath}
use Rattle.path_spec.specs.Selection.{select_rows}
use Rattle.schema_spec.specs.Types.{Types}
use Rattle.selection_laws.specs.marks.Selection.{select_columns}
use Rattle.selection.specs.joined_paths.Joined.{items_of, counts_of}
use Rattle.selection.specs.laws.Selected.{marked-selected}
use Rattle.selection.specs.one_path.Paths.{path_in, paths_from}
use Rattle.table_laws.specs.Codes.{NamesCoded}
use Rattle.table_laws.specs.Columns.{parents_of, numbers_of, codes_of}
use Rattle.table_spec.specs.Rows.{Row}
use Rattle.table_spec.specs.Tables.{well_formed}
use Rattle.text_spec.specs.Lists.{gather, list_of}

-- ---- the range of the paths that are asked for: all, or the one at a place counted from 1
path-at : (c : CompiledPaths) (n k i : ℕ) → i < n → get_elem? (paths_from c n k) i ≡ some (path_in c (k + i))
unfolding bundle_in
path-at c zero k i l = absurd (omega arith)
path-at c (suc n) k zero l = let z : k ≡ k + 0 = omega arith in ap (λ (j : ℕ). some (path_in c j)) z
path-at c (suc n) k (suc i) l =
    let z : suc k + i ≡ k + suc i = omega arith in
    path-at c n (suc k) i (omega arith) ∙ ap (λ (j : ℕ). some (path_in c j)) z

pub asked-range : (c : CompiledPaths) (place : ℕ) → (place ≡ 0 → ⊥) → place - 1 < c.count → paths_from c 1 (place - 1) ≡ asked_paths place (paths_in c)
unfolding paths_in bundle_in
asked-range c zero d l = absurd (d refl)
asked-range c (suc i) d l =
    let z : suc i - 1 ≡ i = omega arith in
    ap (λ (k : ℕ). path_in c k ∷ []) z ∙ sym (ap list_of (path-at c c.count 0 i (omega arith) ∙ ap (λ (k : ℕ). some (path_in c k)) nothing-before))
  where
    nothing-before : 0 + i ≡ i
    nothing-before = omega arith

pub all_asked : (c : CompiledPaths) → paths_from c c.count 0 ≡ asked_paths 0 (paths_in c)
unfolding paths_in
all_asked c = refl

-- ---- on a well-formed table
module _ (s : Types) (lent : List ℕ) (rows : List Row) (ok : T (well_formed s rows)) (coded : NamesCoded rows) where
  one_selected : (p : LocationPath ℕ) → select_columns (parents_of rows) (names_in (codes_of rows)) (numbers_of rows) p ≡ select_rows lent rows p
  unfolding select_columns
  one_selected p = marked-selected s lent rows p ok coded

  joined-selected : (ps : List (LocationPath ℕ)) → gather (select_columns (parents_of rows) (names_in (codes_of rows)) (numbers_of rows)) ps ≡ (selections lent rows ps).items
  joined-selected [] = refl
  joined-selected (p ∷ ps) =
      ap (λ (l : List ℕ). l ++ gather (select_columns (parents_of rows) (names_in (codes_of rows)) (numbers_of rows)) ps) (one_selected p)
      ∙ ap (λ (l : List ℕ). select_rows lent rows p ++ l) (joined-selected ps)

  counts-selected : (ps : List (LocationPath ℕ)) → map (λ p. length (select_columns (parents_of rows) (names_in (codes_of rows)) (numbers_of rows) p)) ps ≡ (selections lent rows ps).counts
  counts-selected [] = refl
  counts-selected (p ∷ ps) =
      ap (λ (l : List ℕ). length l ∷ map (λ q. length (select_columns (parents_of rows) (names_in (codes_of rows)) (numbers_of rows) q)) ps) (one_selected p)
      ∙ ap (λ (l : List ℕ). length (select_rows lent rows p) ∷ l) (counts-selected ps)

  -- n paths from i on, the asked ones
  module _ (c : CompiledPaths) (n i : ℕ) (asked : List (LocationPath ℕ)) (are : paths_from c n i ≡ asked) where
    pub items-selected : items_of c (numbers_of rows) (codes_of rows) (parents_of rows) n i ≡ (selections lent rows asked).items
    unfolding items_of
    items-selected = joined-selected (paths_from c n i) ∙ ap (λ (ps : List (LocationPath ℕ)). (selections lent rows ps).items) are

    pub counts-of-selected : counts_of c (numbers_of rows) (codes_of rows) (parents_of rows) n i ≡ (selections lent rows asked).counts
    unfolding counts_of
    counts-of-selected = counts-selected (paths_from c n i) ∙ ap (λ (ps : List (LocationPath ℕ)). (selections lent rows ps).counts) are
