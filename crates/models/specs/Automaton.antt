-- A content model's position automaton (Glushkov): where the model may begin and end, and for each position its element and the positions
-- that it may come after.
use Rattle.std.specs.Prelude.{List, ◌≡◌, ℕ, ◌≤◌, ◌<◌, length, get_or}
use Rattle.models.specs.Positions.{size, may_be_absent, is_first, is_last, is_next}
use Rattle.models.specs.declared.Ends.{Ends}
use Rattle.schema_spec.specs.Models.{Particle, uses}
use Rattle.schema_spec.specs.Names.{has_bit}
use Rattle.text_spec.specs.Limits.{max_model_names}

-- The position automaton of a particle: each of its positions has its element, and the sets have exactly its first and last positions
-- and those that each may come after. What stands past the particle's positions is never seen.
pub record AutomatonOf (p : Particle ℕ) (e : Ends) (elements predecessors : List ℕ) : Type 0 where
  pub few : size p ≤ max_model_names
  pub room : (size p ≤ length elements) × (size p ≤ length predecessors)
  pub named : (j : ℕ) → j < size p → get_or elements j 0 ≡ get_or (uses p) j 0
  pub first : (j : ℕ) → j < size p → has_bit e.first j ≡ is_first 0 p j
  pub last : (i : ℕ) → i < max_model_names → has_bit e.last i ≡ is_last 0 p i
  pub next : (i j : ℕ) → i < max_model_names → j < size p → has_bit (get_or predecessors j 0) i ≡ is_next 0 p i j
  pub absent : e.nullable ≡ may_be_absent p
