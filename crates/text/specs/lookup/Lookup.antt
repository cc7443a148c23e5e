-- What is found, and elements by their names.
use Rattle.std.specs.Prelude.{List, map, ◌≡◌, ℕ, Option, Some, None}
use Rattle.std.proofs.Math.Option as Math
use Rattle.std.proofs.Common.{ap}
use Rattle.schema_spec.specs.Schemas.{Schema, index_from, element_named}
use Rattle.text_spec.specs.Scans.{name_at}

-- what the code found, as the definitions have it
abbrev pub found : {A : Type 0} → Option A → Math.Option A
found (Some x) = Math.some x
found None = Math.none

-- where the elements' names stand at the places ps of a text, the first of these names that is n is the element with the name n
pub element-by-place : (text ps : List ℕ) (s : Schema) (n : List ℕ) → map (name_at text) ps ≡ map (λ e. e.name) s
    → index_from 0 n (map (name_at text) ps) ≡ element_named s n
unfolding element_named
element-by-place text ps s n e = ap (index_from 0 n) e
