-- Selections of several paths are those of each by itself.
use mathlib.Core.List.Memᴰ.{head as here}
use mathlib.Core.List.Memᴰ.{tail as there}
use mathlib.Core.List.{List, [], ◌∷◌, ◌++◌, map, append-nil, Memᴰ as In}
use Rattle.std.proofs.Math.Option.{some}
use Rattle.std.specs.Prelude.{◌≡◌, refl, ℕ, zero, suc, length}
use Rattle.std.proofs.Math.Path.{ap}
use Rattle.std.proofs.Common.{ap₂, ◌∙◌, take_at, drop_at}
use Rattle.std.proofs.Math.ListN.{get_elem?}
use Rattle.library_spec.specs.Selections.{asked_paths, Selections, selections, split_by}
use Rattle.path_spec.specs.Paths.{LocationPath}
use Rattle.path_spec.specs.Selection.{select_rows}
use Rattle.table_spec.specs.Rows.{Row}
use Rattle.text_spec.specs.Lists.{gather, list_of}

pair : List ℕ → List ℕ → Selections
pair items counts = record { items = items; counts = counts }

module _ (lent : List ℕ) (rows : List Row) where
  -- the items for all asked paths, split by the counts, are the selections of each
  pub selections-split : (asked : List (LocationPath ℕ))
      → split_by (selections lent rows asked).counts (selections lent rows asked).items ≡ map (select_rows lent rows) asked
  selections-split [] = refl
  selections-split (p ∷ ps) =
      let xs = select_rows lent rows p in
      let ys = gather (select_rows lent rows) ps in
      ap₂ {C = List (List ℕ)} ◌∷◌ (take_at xs ys (length xs) refl)
      (ap (split_by (selections lent rows ps).counts) (drop_at xs ys (length xs) refl) ∙ selections-split ps)

  -- the path at a place, counted from 1, by itself
  pub selection-at : (ps : List (LocationPath ℕ)) (i : ℕ) (p : LocationPath ℕ) → get_elem? ps i ≡ some p
      → selections lent rows (asked_paths (suc i) ps) ≡ record { items = select_rows lent rows p; counts = length (select_rows lent rows p) ∷ [] }
  unfolding pair
  selection-at ps i p e =
      ap (λ o. selections lent rows (list_of o)) e ∙ ap (λ (xs : List ℕ). pair xs (length (select_rows lent rows p) ∷ [])) (append-nil (select_rows lent rows p))

-- asked paths are paths of the bundle
pub asked_in : (place : ℕ) (ps : List (LocationPath ℕ)) {p : LocationPath ℕ} → In p (asked_paths place ps) → In p ps
asked_in zero ps i = i
asked_in (suc zero) [] i = elim i [ ]
asked_in (suc zero) (q ∷ ps) (here e) = here e
asked_in (suc zero) (q ∷ ps) (there i) = elim i [ ]
asked_in (suc (suc k)) [] i = elim i [ ]
asked_in (suc (suc k)) (q ∷ ps) i = there (asked_in (suc k) ps i)

-- two tables on which each asked path selects the same give the same
pub selections-agree : (lent lent' : List ℕ) (rows rows' : List Row) (asked : List (LocationPath ℕ))
    → ((p : LocationPath ℕ) → In p asked → select_rows lent rows p ≡ select_rows lent' rows' p) → selections lent rows asked ≡ selections lent' rows' asked
selections-agree lent lent' rows rows' [] h = refl
selections-agree lent lent' rows rows' (p ∷ ps) h =
    ap₂ joined (h p (here refl)) (selections-agree lent lent' rows rows' ps (λ q i. h q (there i)))
  where
    joined : List ℕ → Selections → Selections
    joined xs a = record { items = xs ++ a.items; counts = length xs ∷ a.counts }
