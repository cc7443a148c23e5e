-- A position automaton made part by part: where a particle begins and ends, and which positions each of its positions may come after.
use Rattle.std.specs.Prelude.{Bool, ◌&&◌, ◌||◌, List, ◌≡◌, ℕ, ◌+◌, ◌≤◌, ◌<◌, length, get_or}
use Rattle.models.specs.Positions.{size, may_be_absent, is_first, is_last, is_next}
use Rattle.models.specs.declared.Ends.{Ends}
use Rattle.schema_spec.specs.Models.{Particle}
use Rattle.schema_spec.specs.Names.{has_bit}
use Rattle.text_spec.specs.Limits.{max_model_names}

-- where a particle whose positions are numbered from k begins and ends
pub record EndsOf (k : ℕ) (p : Particle ℕ) (e : Ends) : Type 0 where
  pub first : (i : ℕ) → i < max_model_names → has_bit e.first i ≡ is_first k p i
  pub last : (i : ℕ) → i < max_model_names → has_bit e.last i ≡ is_last k p i
  pub absent : e.nullable ≡ may_be_absent p

-- the cells have, for each position of the particle, the positions that it may come after
abbrev pub Linked : ℕ → Particle ℕ → List ℕ → Type 0
Linked k p predecessors = (i j : ℕ) → i < max_model_names → k ≤ j → j < k + size p → has_bit (get_or predecessors j 0) i ≡ is_next k p i j

-- position j comes after i as before, or because j is among the firsts and i among the lasts
abbrev pub linked_bit : List ℕ → ℕ → ℕ → ℕ → ℕ → Bool
linked_bit predecessors lasts firsts i j = has_bit (get_or predecessors j 0) i || (has_bit firsts j && has_bit lasts i)

-- the cells after a linking, against those before it
pub record LinksAdded (before : List ℕ) (lasts firsts : ℕ) (after : List ℕ) : Type 0 where
  pub long : length after ≡ length before
  pub bits : (i j : ℕ) → j < length before → has_bit (get_or after j 0) i ≡ linked_bit before lasts firsts i j
