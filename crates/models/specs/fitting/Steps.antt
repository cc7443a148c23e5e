-- What a model's position automaton says of one child more, and of the end.
use Rattle.std.specs.Prelude.{Bool, true, false, ◌&&◌, List, ◌≡◌, ℕ, min, eqb, ltb, length, get_or}
use Rattle.models.specs.declared.Ends.{Ends}
use Rattle.models.specs.declared.fitting.State.{State}
use Rattle.models.specs.declared.fitting.State.TheVariants.{Start, Amid}
use Rattle.schema_spec.specs.Names.{has_bit}
use Rattle.text_spec.specs.Limits.{max_model_names}
use Rattle.text_spec.specs.Lists.{any_below}

-- the positions that the last child may have
abbrev pub in_state : State → ℕ → Bool
in_state Start j = false
in_state (Amid w) j = has_bit w j

-- a child has been read
abbrev pub is_amid : State → Bool
is_amid Start = false
is_amid (Amid w) = true

-- position j, which may come after the positions `before`, may be the next child's
abbrev pub entered : Ends → ℕ → State → ℕ → Bool
entered e before Start j = has_bit e.first j
entered e before (Amid w) j = any_below max_model_names (λ i. has_bit w i && has_bit before i)

-- it has the child's element, and may be entered
abbrev pub goes_to : Ends → ℕ → ℕ → State → ℕ → ℕ → Bool
goes_to e here before state child j = eqb here child && entered e before state j

-- the positions that both lists have
abbrev pub positions : List ℕ → List ℕ → ℕ
positions elements predecessors = min max_model_names (min (length elements) (length predecessors))

-- the position j, of those below a bound, comes next
abbrev pub comes_next : Ends → List ℕ → List ℕ → State → ℕ → ℕ → ℕ → Bool
comes_next e elements predecessors state child bound j = ltb j bound && goes_to e (get_or elements j 0) (get_or predecessors j 0) state child j

-- the state after a child has exactly the positions that come next
pub record Stepped (e : Ends) (elements predecessors : List ℕ) (state : State) (child : ℕ) (after : State) : Type 0 where
  pub amid : is_amid after ≡ true
  pub positions : (j : ℕ) → in_state after j ≡ comes_next e elements predecessors state child (positions elements predecessors) j

-- the children may end here
abbrev pub may_end : Ends → State → Bool
may_end e Start = e.nullable
may_end e (Amid w) = any_below max_model_names (λ i. has_bit w i && has_bit e.last i)
