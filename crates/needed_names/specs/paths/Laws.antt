-- Laws of written steps with their conditions, one and those after it, and of paths, those before one and it.
use Rattle.std.specs.Prelude.{List, [], ◌∷◌, ◌++◌, ◌≡◌, refl, ℕ, zero, suc, ◌+◌, ◌-◌, ◌≤◌}
use Rattle.std.proofs.Common.{sym, ap, subst, ◌∙◌, arith, add-one, zero-add, append-nil, append_assoc}
use Rattle.compiled_paths.specs.Paths.{Shaped}
use Rattle.compiled_paths.specs.Sizes.{written_steps, all_steps}
use Rattle.compiled_paths.specs.Steps.{start_at, end_at, size_at, condition_at, step_at, steps_in, steps_next, path_at, bundle_in}
use Rattle.compiled_paths.specs.declared.CompiledPaths.{CompiledPaths}
use Rattle.compiled_paths.specs.declared.Step.{Step as CompiledStep}
use Rattle.inference.specs.back_steps.Needs.{NeedsOf}
use Rattle.inference.specs.declared.back_steps.Needs.{Needs}
use Rattle.inference.specs.written_steps.Laws.{written-needs}
use Rattle.inference.specs.written_steps.Parts.{last_part, before_last, reached, WrittenNeeds}
use Rattle.inference_spec.specs.Needed.{keeps_name, wants_names, needed_by_path, needed}
use Rattle.inference_spec.specs.Types.{Env, cut_to, narrow, infer}
use Rattle.names.specs.Sets.{set_in}
use Rattle.names.specs.declared.NameSet.{NameSet}
use Rattle.needed_names.specs.paths.Steps.{HasWrittenSteps}
use Rattle.path_spec.specs.Paths.{WrittenStep, Condition, unconditional, Step, expand_from, LocationPath}
use Rattle.schema_spec.specs.Names.{Names, names_of, within}
use Rattle.schema_spec.specs.Schemas.{Schema}
use Rattle.schema_spec.specs.Types.{types_of}
use Rattle.text_spec.specs.Lists.{gather}

-- ---- ranges end within their columns
pub condition-inside : (c : CompiledPaths) (k n i : ℕ) → HasWrittenSteps c k n → end_at c.conditions i ≤ all_steps
condition-inside c k n i h =
    let l = h.conditions-inside i in
    let m = h.conditions-inside (i + 1) in
    omega arith

pub path-inside : (c : CompiledPaths) (i : ℕ) → Shaped c → end_at c.paths i ≤ written_steps
path-inside c i h =
    let l = h.paths-in i in
    let m = h.paths-in (i + 1) in
    omega arith

-- ---- the steps of a path, and those after the first
pub path-steps : (c : CompiledPaths) (i first size : ℕ) → Shaped c → first ≡ start_at c.paths i → size ≡ size_at c.paths i → HasWrittenSteps c first size
path-steps c i first size h e f =
    let l = h.paths-in i in
    let m = path-inside c i h in
    record { counted = omega arith; conditions-inside = h.conditions-in }

pub later-steps : (c : CompiledPaths) (k n : ℕ) → (n ≡ 0 → ⊥) → HasWrittenSteps c k n → HasWrittenSteps c (k + 1) (n - 1)
later-steps c k n d h =
    let l = h.counted in
    record { counted = omega arith; conditions-inside = h.conditions-inside }

module _ (steps : List CompiledStep) (conditions : List ℕ) where
  -- ---- the step k, written as the step of number i: the test, then the condition
  module _ (s : Schema) (i k : ℕ) where
    abbrev here : Step ℕ (Condition ℕ)
    here = last_part i (step_at steps conditions k).axis (step_at steps conditions k).test (condition_at steps conditions k)

    abbrev narrowed : Env → Env
    narrowed gone = narrow (types_of s) (λ a. keeps_name (types_of s) (cut_to (types_of s) (a ∷ []) gone.context) here.condition a) gone

    pub infer-written-step : (e gone f : Env) → gone ≡ reached (types_of s) (step_at steps conditions k).axis here.test e → f ≡ narrowed gone
        → f ≡ infer (types_of s) (keeps_name (types_of s)) here (before_last (types_of s) (step_at steps conditions k).axis e)
    infer-written-step e gone f g d = d ∙ ap narrowed g

    pub needs-written-step : (n : ℕ) → (n ≡ 0 → ⊥) → (e gone f : Env) (want : NameSet) (later r : Needs)
        → gone ≡ reached (types_of s) (step_at steps conditions k).axis here.test e → f ≡ narrowed gone
        → NeedsOf s (keeps_name (types_of s)) (wants_names (types_of s)) (expand_from unconditional (suc i) (steps_in steps conditions (n - 1) (k + 1))) f later
        → set_in s want ≡ within (names_of s) (gather (λ a. wants_names (types_of s) (cut_to (types_of s) (a ∷ []) f.context) here.condition a) (set_in s later.complete))
        → WrittenNeeds s (step_at steps conditions k).axis e want later r
        → NeedsOf s (keeps_name (types_of s)) (wants_names (types_of s)) (expand_from unconditional i (steps_in steps conditions n k)) e r
    needs-written-step n left e gone f want later r g d m w x =
        subst (λ (ps : List (WrittenStep ℕ (Condition ℕ))). NeedsOf s (keeps_name (types_of s)) (wants_names (types_of s)) (expand_from unconditional i ps) e r)
        (sym (steps_next steps conditions n k left))
        (written-needs s unconditional (keeps_name (types_of s)) (λ l a. refl) (wants_names (types_of s)) (λ l a. refl) i (step_at steps conditions k).axis here.test here.condition
        (expand_from unconditional (suc i) (steps_in steps conditions (n - 1) (k + 1))) e f want later r (infer-written-step e gone f g d) m w x)

  -- ---- the paths before the path n from i on, and it
  module _ (paths : List ℕ) where
    bundle-last : (n i : ℕ) → bundle_in steps conditions paths (suc n) i ≡ bundle_in steps conditions paths n i ++ (path_at steps conditions paths (i + n) ∷ [])
    unfolding bundle_in
    bundle-last zero i = ap (λ (j : ℕ). path_at steps conditions paths j ∷ []) (omega arith)
    bundle-last (suc n) i =
        ap (λ (l : List (LocationPath ℕ)). path_at steps conditions paths i ∷ l) (bundle-last n (suc i)
        ∙ ap (λ (j : ℕ). bundle_in steps conditions paths n (suc i) ++ (path_at steps conditions paths j ∷ [])) (omega arith))

    gather-last : (f : LocationPath ℕ → Names) (ps : List (LocationPath ℕ)) (p : LocationPath ℕ) → gather f (ps ++ (p ∷ [])) ≡ gather f ps ++ f p
    gather-last f [] p = append-nil (f p)
    gather-last f (q ∷ ps) p = ap (λ (l : Names). f q ++ l) (gather-last f ps p) ∙ sym (append_assoc (f q) (gather f ps) (f p))

    -- what the first i paths need
    abbrev pub needed_before : Schema → ℕ → Names
    needed_before s i = gather (needed_by_path (types_of s)) (bundle_in steps conditions paths i 0)

    pub needed-none : (s : Schema) → needed_before s 0 ≡ []
    unfolding bundle_in
    needed-none s = refl

    pub needed-next : (s : Schema) (i : ℕ) → needed_before s (i + 1) ≡ needed_before s i ++ needed_by_path (types_of s) (path_at steps conditions paths i)
    needed-next s i =
        let f = needed_by_path (types_of s) in
        let before = bundle_in steps conditions paths i 0 in
        ap (λ (n : ℕ). gather f (bundle_in steps conditions paths n 0)) (add-one i)
        ∙ ap (gather f) (bundle-last i 0 ∙ ap (λ (j : ℕ). before ++ (path_at steps conditions paths j ∷ [])) (zero-add i)) ∙ gather-last f before (path_at steps conditions paths i)

    pub needed-all : (s : Schema) (n : ℕ) → within (names_of s) (needed_before s n) ≡ needed (types_of s) (bundle_in steps conditions paths n 0)
    unfolding needed types_of
    needed-all s n = refl
