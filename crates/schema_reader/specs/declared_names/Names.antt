-- Names by their places: which are the same, declared twice, or used and not declared.
use Rattle.std.specs.Prelude.{Bool, cond, not, List, [], ◌∷◌, map, ◌≡◌, ℕ, zero, suc, length, get_or, Result, Ok, Err}
use Rattle.std.proofs.Math.Option.{some}
use Rattle.schema_spec.specs.Schemas.{index_from}
use Rattle.text_spec.specs.Lists.{any_of, filter_by, first, value_or, same_bytes}
use Rattle.text_spec.specs.Scans.{name_at}

-- the names at the first k of some places, the last first
abbrev pub names_before : List ℕ → List ℕ → ℕ → List (List ℕ)
names_before s ps zero = []
names_before s ps (suc k) = name_at s (get_or ps k 0) ∷ names_before s ps k

-- the name at p is among some names
abbrev pub is_among : List ℕ → List (List ℕ) → ℕ → Bool
is_among s ns p = any_of (same_bytes (name_at s p)) ns

-- the places whose names stand among those before them or among ns
abbrev pub twice_at : List ℕ → List (List ℕ) → List ℕ → List ℕ
twice_at s ns [] = []
twice_at s ns (p ∷ ps) = cond (is_among s ns p) (p ∷ twice_at s (name_at s p ∷ ns) ps) (twice_at s (name_at s p ∷ ns) ps)

-- the places whose names are not among ns
abbrev pub missing_at : List ℕ → List (List ℕ) → List ℕ → List ℕ
missing_at s ns ps = filter_by (λ p. not (is_among s ns p)) ps

-- the element whose name stands at p: its index among the names at some places, or their number
abbrev pub element_at : List ℕ → List ℕ → ℕ → ℕ
element_at s names p = value_or (length names) (index_from 0 (name_at s p) (map (name_at s) names))

-- Used names resolved: each place has become the element with the name that stands there, or else the first place whose name is not declared.
abbrev pub ResolvedAs : List ℕ → List ℕ → List ℕ → List ℕ → Result (Unit {0}) ℕ → Type 0
ResolvedAs s names uses uses' (Ok done) =
    (missing_at s (names_before s names (length names)) uses ≡ []) × (uses' ≡ map (element_at s names) uses)
ResolvedAs s names uses uses' (Err p) = some p ≡ first (missing_at s (names_before s names (length names)) uses)

pub record Resolved (s names uses uses' : List ℕ) (r : Result (Unit {0}) ℕ) : Type 0 where
  pub long : length uses' ≡ length uses
  pub says : ResolvedAs s names uses uses' r
