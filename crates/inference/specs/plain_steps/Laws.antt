-- Laws of steps without brackets, one step and those after it.
use Rattle.std.specs.Prelude.{List, ◌∷◌, map, ◌≡◌, refl, false, ℕ, suc, zero, ◌+◌, ◌≤◌, ◌<◌, length, take, drop, get_or}
use Rattle.std.proofs.Common.{sym, ap, ap₂, ◌∙◌, arith, add-one}
use Rattle.std.proofs.Math.Seq.{drop-cons}
use Rattle.compiled_paths.specs.Steps.{written_axis, node_test, plain_step, no_step, step_in, plain_in}
use Rattle.compiled_paths.specs.declared.Step.{Step as CompiledStep}
use Rattle.inference_spec.specs.Needed.{keeps_all, wants_nothing}
use Rattle.inference_spec.specs.Types.{Env, infer, infer_all}
use Rattle.inference.specs.back_steps.Needs.{NeedsOf}
use Rattle.inference.specs.declared.back_steps.Needs.{Needs}
use Rattle.inference.specs.written_steps.Laws.{unconditional-infer, written-infer, nothing-wanted, written-needs}
use Rattle.inference.specs.written_steps.Parts.{last_part, before_last, reached, WrittenNeeds}
use Rattle.names.specs.Sets.{member, set_in}
use Rattle.names.specs.declared.NameSet.{NameSet}
use Rattle.path_laws.specs.Paths.{last_axis}
use Rattle.path_spec.specs.Paths.{PlainStep, Step, expand_from}
use Rattle.schema_spec.specs.Names.{Name}
use Rattle.schema_spec.specs.Schemas.{Schema}
use Rattle.schema_spec.specs.Types.{types_of}

-- the analysed steps of steps without brackets, the first of which is the step of number i
abbrev pub analysed : ℕ → List CompiledStep → List (Step ℕ (Unit {0}))
analysed i steps = expand_from tt i (map plain_step steps)

-- n steps from k on are those of a slice
pub plain-slice : (steps : List CompiledStep) (n k : ℕ) → k + n ≤ length steps → plain_in steps n k ≡ map plain_step (take n (drop k steps))
unfolding plain_in
plain-slice steps zero k h = refl
plain-slice steps (suc n) k h =
    ap (λ (l : List (PlainStep ℕ)). plain_step (get_or steps k no_step) ∷ l) (plain-slice steps n (suc k) (omega arith))
    ∙ ap (λ (l : List CompiledStep). map plain_step (take (suc n) l)) (sym (drop-cons steps k no_step (omega arith)))

-- a step, which is written as the step of number i, and those after it
module _ (s : Schema) (i : ℕ) (p : CompiledStep) (rest : List CompiledStep) where
  last-infer : (e f : Env) → f ≡ reached (types_of s) (written_axis p.axis) (node_test p.test) e
      → f ≡ infer (types_of s) keeps_all (last_part i (written_axis p.axis) (node_test p.test) tt) (before_last (types_of s) (written_axis p.axis) e)
  last-infer e f d = d ∙ sym (unconditional-infer s tt keeps_all (λ k a. refl) i (last_axis (written_axis p.axis)) (node_test p.test) (before_last (types_of s) (written_axis p.axis) e))

  pub infer-plain-step : (e f : Env) → f ≡ reached (types_of s) (written_axis p.axis) (node_test p.test) e
      → infer_all (types_of s) keeps_all (analysed (suc i) rest) f ≡ infer_all (types_of s) keeps_all (analysed i (p ∷ rest)) e
  infer-plain-step e f d =
      ap (infer_all (types_of s) keeps_all (analysed (suc i) rest)) (last-infer e f d)
      ∙ sym (written-infer s tt keeps_all (λ k a. refl) i (written_axis p.axis) (node_test p.test) tt (analysed (suc i) rest) e)

  pub needs-plain-step : (e f : Env) (none : NameSet) (later r : Needs) → f ≡ reached (types_of s) (written_axis p.axis) (node_test p.test) e → ((m : Name) → member none m ≡ false)
      → NeedsOf s keeps_all wants_nothing (analysed (suc i) rest) f later → WrittenNeeds s (written_axis p.axis) e none later r
      → NeedsOf s keeps_all wants_nothing (analysed i (p ∷ rest)) e r
  needs-plain-step e f none later r d empty m w =
      written-needs s tt keeps_all (λ k a. refl) wants_nothing (λ k a. refl) i (written_axis p.axis) (node_test p.test) tt (analysed (suc i) rest) e f none later r (last-infer e f d) m
      (nothing-wanted s tt keeps_all (λ k a. refl) wants_nothing (λ k a. refl) none f.context (set_in s later.complete) empty) w

-- the step j of some, and those after it
pub infer-step-at : (s : Schema) (i j : ℕ) (steps : List CompiledStep) (e f : Env) → j < length steps
    → f ≡ reached (types_of s) (written_axis (step_in steps j).axis) (node_test (step_in steps j).test) e
    → infer_all (types_of s) keeps_all (analysed (i + (j + 1)) (drop (j + 1) steps)) f ≡ infer_all (types_of s) keeps_all (analysed (i + j) (drop j steps)) e
infer-step-at s i j steps e f inside d =
    let number : i + (j + 1) ≡ suc (i + j) = omega arith in
    ap₂ (λ (n : ℕ) (l : List CompiledStep). infer_all (types_of s) keeps_all (analysed n l) f) number (ap (λ (n : ℕ). drop n steps) (add-one j))
    ∙ infer-plain-step s (i + j) (step_in steps j) (drop (suc j) steps) e f d
    ∙ ap (λ (l : List CompiledStep). infer_all (types_of s) keeps_all (analysed (i + j) l) e) (sym (drop-cons steps j no_step inside))
