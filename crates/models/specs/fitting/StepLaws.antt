-- Laws of the positions that come next: one position more is looked at.
use Rattle.std.specs.Prelude.{Bool, ◌&&◌, ◌||◌, List, ◌≡◌, refl, ℕ, ◌+◌, eqb, get_or}
use Rattle.std.proofs.Common.{sym, ap, ap₂, ◌∙◌, arith, le-ltb}
use Rattle.models.specs.declared.Ends.{Ends}
use Rattle.models.specs.declared.fitting.State.{State}
use Rattle.models.specs.declared.fitting.State.TheVariants.{Amid}
use Rattle.models.specs.fitting.Steps.{goes_to, positions, comes_next, Stepped}
use Rattle.names.specs.bits.Bits.{bit-none}
use Rattle.schema_spec.specs.Names.{has_bit}
use Rattle.text_laws.specs.Searches.{one_more}

module _ (e : Ends) (elements predecessors : List ℕ) (state : State) (child : ℕ) where
  pub next-first : (j : ℕ) → has_bit 0 j ≡ comes_next e elements predecessors state child 0 j
  next-first j =
      bit-none j ∙ sym (ap (λ (b : Bool). b && goes_to e (get_or elements j 0) (get_or predecessors j 0) state child j) (le-ltb j 0 (omega arith)))

  pub next_more : (set r p : ℕ) (test : Bool) → ((j : ℕ) → has_bit set j ≡ comes_next e elements predecessors state child p j)
      → test ≡ goes_to e (get_or elements p 0) (get_or predecessors p 0) state child p → ((j : ℕ) → has_bit r j ≡ (has_bit set j || (eqb j p && test)))
      → (j : ℕ) → has_bit r j ≡ comes_next e elements predecessors state child (p + 1) j
  next_more set r p test inv here new j =
      new j ∙ ap₂ (λ (x y : Bool). x || (eqb j p && y)) (inv j) here ∙ one_more (λ i. goes_to e (get_or elements i 0) (get_or predecessors i 0) state child i) p j

  -- the word of all positions that come next is the next state
  pub stepped : (count w : ℕ) → count ≡ positions elements predecessors → ((j : ℕ) → has_bit w j ≡ comes_next e elements predecessors state child count j)
      → Stepped e elements predecessors state child (Amid w)
  stepped count w bound h =
      record { amid = refl; positions = λ j. h j ∙ ap (λ (n : ℕ). comes_next e elements predecessors state child n j) bound }
