-- A content model's position automaton decides what fits it: its states are the definition's marks, step by step.
use Rattle.std.specs.Prelude.{Bool, true, false, ◌&&◌, ◌||◌, List, [], ◌∷◌, ◌++◌, ◌↔◌, ◌≡◌, refl, ℕ, ◌<◌, eqb, ltb, get_or}
use Rattle.std.proofs.Math.Bool.{or-false}
use Rattle.std.proofs.Common.{sym, ap₂, ◌∙◌, zero-add, arith, lt-ltb}
use Rattle.std.proofs.Math.Path.{ap, subst}
use Rattle.std.proofs.Math.Dec.{T}
use Rattle.models.specs.Automaton.{AutomatonOf}
use Rattle.models.specs.Positions.{size, is_first, is_last, is_next}
use Rattle.models.specs.declared.Ends.{Ends}
use Rattle.models.specs.declared.fitting.State.{State}
use Rattle.models.specs.declared.fitting.State.TheVariants.{Start, Amid}
use Rattle.models.specs.fitting.Marks.{marked, marked-cong, marked-none, nullable-marked, final-marked, after, Labelled, shift-marked, labels}
use Rattle.models.specs.fitting.Steps.{positions, comes_next, Stepped, may_end}
use Rattle.schema_laws.specs.Models.{fits-decides}
use Rattle.schema_spec.specs.Models.{Particle, Fits, Position, shift, nullable, Progress, amid, started, advance, complete, advance_all, fits}
use Rattle.schema_spec.specs.Names.{has_bit}
use Rattle.text_laws.specs.Searches.{any-cong, any_none}
use Rattle.text_laws.specs.Tests.{eqb-sym}
use Rattle.text_spec.specs.Limits.{max_model_names}
use Rattle.text_spec.specs.Lists.{any_below}

-- what a state stands for
abbrev pub progress_of : Particle ℕ → State → Progress
progress_of p Start = started p
progress_of p (Amid w) = amid (marked 0 p (has_bit w))

module _ (p : Particle ℕ) (e : Ends) (elements predecessors : List ℕ) (t : AutomatonOf p e elements predecessors) where
  abbrev label : ℕ → ℕ
  label j = get_or elements j 0

  labelled : Labelled label 0 p
  labelled = labels label 0 p (λ i l. ap label (zero-add i) ∙ t.named i l)

  -- the children may end where the marks may
  pub may_end-complete : (state : State) → may_end e state ≡ complete (progress_of p state)
  may_end-complete Start = t.absent ∙ sym (ap nullable (marked-none 0 p) ∙ nullable-marked 0 p (λ i. false))
  may_end-complete (Amid w) =
      any-cong max_model_names (λ i. has_bit w i && has_bit e.last i) (λ i. has_bit w i && is_last 0 p i) (λ i l. ap (λ (b : Bool). has_bit w i && b) (t.last i l))
      ∙ sym (final-marked max_model_names 0 p (has_bit w) (omega (arith, t.few)))

  module _ (child j : ℕ) (inside : j < size p) where
    -- the position is one of the automaton's
    reached : ltb j (positions elements predecessors) ≡ true
    reached = lt-ltb j (positions elements predecessors) (omega (arith, t.few, t.room.0, t.room.1))

    from_start : comes_next e elements predecessors Start child (positions elements predecessors) j ≡ after max_model_names true label 0 p (λ i. false) child j
    from_start =
        ap₂ (λ (x y : Bool). x && (y && has_bit e.first j)) reached (eqb-sym (label j) child)
        ∙ ap (λ (b : Bool). eqb child (label j) && b)
        (t.first j inside ∙ sym (ap (λ (b : Bool). is_first 0 p j || b) (any_none max_model_names) ∙ or-false (is_first 0 p j)))

    from-amid : (w : ℕ) → comes_next e elements predecessors (Amid w) child (positions elements predecessors) j ≡ after max_model_names false label 0 p (has_bit w) child j
    from-amid w =
        ap₂ (λ (x y : Bool). x && (y && any_below max_model_names (λ i. has_bit w i && has_bit (get_or predecessors j 0) i))) reached (eqb-sym (label j) child)
        ∙ ap (λ (b : Bool). eqb child (label j) && b)
        (any-cong max_model_names (λ i. has_bit w i && has_bit (get_or predecessors j 0) i) (λ i. has_bit w i && is_next 0 p i j) (λ i l. ap (λ (b : Bool). has_bit w i && b) (t.next i j l inside)))

  -- one child more is one step of the marks
  pub step-advances : (state : State) (child : ℕ) (r : State) → Stepped e elements predecessors state child r → progress_of p r ≡ advance (progress_of p state) child
  step-advances state child Start h = absurd (subst T (sym h.amid) tt)
  step-advances Start child (Amid w) h =
      ap amid (marked-cong 0 p (has_bit w) (after max_model_names true label 0 p (λ i. false) child) (λ j l u. h.positions j ∙ from_start child j (omega arith))
      ∙ sym (ap (λ (x : Particle Position). shift true x child) (marked-none 0 p) ∙ shift-marked max_model_names label child true 0 p (λ i. false) (omega (arith, t.few)) labelled))
  step-advances (Amid v) child (Amid w) h =
      ap amid (marked-cong 0 p (has_bit w) (after max_model_names false label 0 p (has_bit v) child) (λ j l u. h.positions j ∙ from-amid child j (omega arith) v)
      ∙ sym (shift-marked max_model_names label child false 0 p (has_bit v) (omega (arith, t.few)) labelled))

-- a run: from one state to another, child by child
pub data Run (e : Ends) (elements predecessors : List ℕ) : State → List ℕ → State → Type 0 where
  done : {s : State} → Run e elements predecessors s [] s
  child : {s t u : State} {a : ℕ} {w : List ℕ} → Stepped e elements predecessors s a t → Run e elements predecessors t w u → Run e elements predecessors s (a ∷ w) u

-- one more child at the end
pub run_more : {e : Ends} {elements predecessors : List ℕ} {s t u : State} {w : List ℕ} {a : ℕ}
    → Run e elements predecessors s w t → Stepped e elements predecessors t a u → Run e elements predecessors s (w ++ (a ∷ [])) u
run_more done h = child h done
run_more (child k r) h = child k (run_more r h)

module _ (p : Particle ℕ) (e : Ends) (elements predecessors : List ℕ) (t : AutomatonOf p e elements predecessors) where
  pub run-advances : {s u : State} {w : List ℕ} → Run e elements predecessors s w u → progress_of p u ≡ advance_all (progress_of p s) w
  run-advances done = refl
  run-advances (child {s = s} {t = r} {a = a} {w = w} h k) = run-advances k ∙ ap (λ (q : Progress). advance_all q w) (step-advances p e elements predecessors t s a r h)

  -- The children fit the model exactly if the state after them may be the end.
  pub run-decides : {u : State} {w : List ℕ} → Run e elements predecessors Start w u → T (may_end e u) ↔ Fits p w
  unfolding fits
  run-decides {u} {w} h =
      let same : may_end e u ≡ fits p w = may_end-complete p e elements predecessors t u ∙ ap complete (run-advances h) in
      (λ m. (fits-decides p w).0 (subst T same m), λ f. subst T (sym same) ((fits-decides p w).1 f))
