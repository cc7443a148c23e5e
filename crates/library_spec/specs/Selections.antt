-- Which paths of a bundle a caller asks for, and what they select together.
use Rattle.std.specs.Prelude.{List, [], ◌∷◌, map, ℕ, zero, suc, length, take, drop}
use Rattle.std.proofs.Math.ListN.{get_elem?}
use Rattle.path_spec.specs.Paths.{LocationPath}
use Rattle.path_spec.specs.Selection.{select_rows}
use Rattle.table_spec.specs.Rows.{Row}
use Rattle.text_spec.specs.Lists.{gather, list_of}

-- a path by its place in the bundle, counted from 1 as `listing` prints it; 0 asks for all paths in order
abbrev pub asked_paths : ℕ → List (LocationPath ℕ) → List (LocationPath ℕ)
asked_paths zero ps = ps
asked_paths (suc i) ps = list_of (get_elem? ps i)

-- what they select, joined, and how many nodes each selects
pub record Selections : Type 0 where
  pub items : List ℕ
  pub counts : List ℕ

abbrev pub selections : List ℕ → List Row → List (LocationPath ℕ) → Selections
selections lent rows asked = record { items = gather (select_rows lent rows) asked; counts = map (λ p. length (select_rows lent rows p)) asked }

-- items split by counts: those of each asked path by itself
abbrev pub split_by : List ℕ → List ℕ → List (List ℕ)
split_by [] items = []
split_by (n ∷ ns) items = take n items ∷ split_by ns (drop n items)
