-- The compiled steps that were filled from what was noted of a text stand for its paths, with their elements by index.
use Rattle.std.specs.Prelude.{Bool, not, ◌≡◌, set}
use Rattle.std.proofs.Math.Bool.{true, false}
use mathlib.Core.List.{List, [], ◌∷◌, ◌++◌, map, map-map}
use Rattle.std.proofs.Math.Path.{refl, sym, ap, ap₂}
use Rattle.std.proofs.Common.{subst, ◌∙◌, add-zero, add-one, length-set, length-append, get_or-set_same, get_or-set_other}
use Prim.Native.Nat.{ℕ, suc, ◌+◌, ◌-◌, ◌≤◌, ◌<◌}
use native.Mathlib.Omega.{arith}
use Rattle.std.proofs.Math.ListN.{length, get_or}
use Rattle.std.proofs.lemmas.List.Edits.{sets}
use Rattle.bundle_text.specs.declared.steps.StepRead.{StepRead}
use Rattle.bundle_text.specs.notes.Laws.{cells-append}
use Rattle.bundle_text.specs.notes.Notes.{cells_of, Written, all_paths, Line, all_steps, path_ends}
use Rattle.bundle_text.specs.paths.Readings.{path_noted}
use Rattle.bundle_text.specs.steps.Readings.{step_axis, step_test, plain_noted}
use Rattle.bundle_text.specs.written_steps.Readings.{step_noted, condition_of}
use Rattle.compiled_paths.specs.Steps.{written_axis, node_test, step_in, joined, plain_at, alternatives_in, condition_in, condition-none, condition-some, condition_at, step_at, steps_in, bundle_in}
use Rattle.compiled_paths.specs.declared.Step.{Step}
use Rattle.path_spec.specs.Paths.{WrittenAxis, NodeTest, PlainStep, WrittenStep, Condition, alternatives, LocationPath, from_root_element, rename_test, rename_plain, rename_condition, rename_step, rename_path}
use Rattle.schema_spec.specs.Declarations.{Use}

-- ---- a list stands along a column
abbrev pub Along : {A : Type 0} → (ℕ → A → Type 0) → ℕ → List A → Type 0
Along P k [] = Unit {0}
Along P k (x ∷ xs) = P k x × Along P (suc k) xs

-- whose cells are d past its end
abbrev pub Holds : {A : Type 0} → A → List A → ℕ → List A → Type 0
Holds d column k xs = Along (λ j x. get_or column j d ≡ x) k xs

module _ {A : Type 0} where
  pub along-append : (P : ℕ → A → Type 0) (k : ℕ) (xs ys : List A) → Along P k (xs ++ ys) → Along P k xs × Along P (k + length xs) ys
  along-append P k [] ys h = (tt, subst (λ (n : ℕ). Along P n ys) (sym (add-zero k)) h)
  along-append P k (x ∷ xs) ys h =
      let z = along-append P (suc k) xs ys h.1 in
      let e : suc k + length xs ≡ k + suc (length xs) = omega arith in
      ((h.0, z.0), subst (λ (n : ℕ). Along P n ys) e z.1)

  module _ (d : A) where
    pub sets-before : (l : List A) (at : ℕ) (xs : List A) (k : ℕ) → k < at → get_or (sets l at xs) k d ≡ get_or l k d
    sets-before l at [] k h = refl
    sets-before l at (x ∷ xs) k h = sets-before (set l at x) (suc at) xs k (omega arith) ∙ get_or-set_other l at k x d (λ e. omega arith)

    -- what was stored stands there, and so does what stood before it
    pub holds-sets : (l : List A) (at : ℕ) (xs : List A) → at + length xs ≤ length l → Holds d (sets l at xs) at xs
    holds-sets l at [] h = tt
    holds-sets l at (x ∷ xs) h =
        (sets-before (set l at x) (suc at) xs at (omega arith) ∙ get_or-set_same l at x d (omega arith), holds-sets (set l at x) (suc at) xs (omega (arith, length-set l at x)))

    pub holds-before : (l : List A) (at : ℕ) (xs : List A) (k : ℕ) (ys : List A) → k + length ys ≤ at → Holds d l k ys → Holds d (sets l at xs) k ys
    holds-before l at xs k [] h s = tt
    holds-before l at xs k (y ∷ ys) h s = (sets-before l at xs k (omega arith) ∙ s.0, holds-before l at xs (suc k) ys (omega arith) s.1)

    -- what stands so in one column stands so in another with the same cells up to there
    pub holds_same : (l l' : List A) (k : ℕ) (xs : List A) → ((j : ℕ) → j < k + length xs → get_or l' j d ≡ get_or l j d) → Holds d l k xs → Holds d l' k xs
    holds_same l l' k [] h s = tt
    holds_same l l' k (x ∷ xs) h s = (h k (omega arith) ∙ s.0, holds_same l l' (suc k) xs (λ j g. h j (omega arith)) s.1)

-- ---- steps, over any way to give names their elements
module _ (text : List ℕ) (f : Use → ℕ) (steps : List Step) where
  -- the step that was read stands in a cell
  abbrev pub Stands : ℕ → StepRead → Type 0
  Stands k c = (written_axis (step_in steps k).axis ≡ step_axis c) × (node_test (step_in steps k).test ≡ rename_test f (step_test text c))

  abbrev renamed : StepRead → PlainStep ℕ
  renamed c = rename_plain f (plain_noted text c)

  plain_at_lem : (k : ℕ) (c : StepRead) → Stands k c → plain_at steps k ≡ renamed c
  plain_at_lem k c h = ap₂ (λ (a : WrittenAxis) (t : NodeTest ℕ). record { axis = a; test = t; condition = tt }) h.0 h.1

  -- ---- alternatives: each ends with its last step
  abbrev pub Alternative : ℕ → List StepRead → Type 0
  Alternative k [] = ⊥
  Alternative k (c ∷ []) = Stands k c × ((step_in steps k).ends_alternative ≡ true)
  Alternative k (c ∷ d ∷ cs) = Stands k c × ((step_in steps k).ends_alternative ≡ false) × Alternative (suc k) (d ∷ cs)

  -- one after the other
  abbrev pub Alternatives : ℕ → List (List StepRead) → Type 0
  Alternatives k [] = Unit {0}
  Alternatives k (q ∷ qs) = Alternative k q × Alternatives (k + length q) qs

  pub alternatives-append : (k : ℕ) (ps qs : List (List StepRead)) → Alternatives k (ps ++ qs) → Alternatives k ps × Alternatives (k + length (cells_of ps)) qs
  alternatives-append k [] qs h = (tt, subst (λ (n : ℕ). Alternatives n qs) (sym (add-zero k)) h)
  alternatives-append k (p ∷ ps) qs h =
      let z = alternatives-append (k + length p) ps qs h.1 in
      let e : k + length p + length (cells_of ps) ≡ k + length (p ++ cells_of ps) = omega (arith, length-append p (cells_of ps)) in
      ((h.0, z.0), subst (λ (n : ℕ). Alternatives n qs) e z.1)

  -- an alternative before others
  alternative-stands : (k n : ℕ) (q : List StepRead) {qs : List (List (PlainStep ℕ))} → Alternative k q → alternatives_in steps n (k + length q) ≡ qs
      → alternatives_in steps (length q + n) k ≡ map renamed q ∷ qs
  unfolding alternatives_in joined
  alternative-stands k n [] a e = absurd a
  alternative-stands k n (c ∷ []) a e =
      let i : length (c ∷ []) + n ≡ suc n = omega arith in
      ap (λ (m : ℕ). alternatives_in steps m k) i
      ∙ ap (λ (b : Bool). joined (not b) (plain_at steps k) (alternatives_in steps n (suc k))) a.1
      ∙ ap₂ (λ (p : PlainStep ℕ) (ps : List (List (PlainStep ℕ))). (p ∷ []) ∷ ps) (plain_at_lem k c a.0) (ap (alternatives_in steps n) (sym (add-one k)) ∙ e)
  alternative-stands k n (c ∷ d ∷ cs) a e =
      let i : length (c ∷ d ∷ cs) + n ≡ suc (length (d ∷ cs) + n) = omega arith in
      let j : suc k + length (d ∷ cs) ≡ k + length (c ∷ d ∷ cs) = omega arith in
      ap (λ (m : ℕ). alternatives_in steps m k) i
      ∙ ap (λ (b : Bool). joined (not b) (plain_at steps k) (alternatives_in steps (length (d ∷ cs) + n) (suc k))) a.1
      ∙ ap₂ (λ (p : PlainStep ℕ) (ps : List (List (PlainStep ℕ))). joined true p ps) (plain_at_lem k c a.0)
      (alternative-stands (suc k) n (d ∷ cs) a.2 (ap (alternatives_in steps n) j ∙ e))

  alternatives-stand : (k : ℕ) (qs : List (List StepRead)) → Alternatives k qs → alternatives_in steps (length (cells_of qs)) k ≡ map (map renamed) qs
  unfolding alternatives_in
  alternatives-stand k [] a = refl
  alternatives-stand k (q ∷ qs) a =
      ap (λ (n : ℕ). alternatives_in steps n k) (length-append q (cells_of qs))
      ∙ alternative-stands k (length (cells_of qs)) q a.0 (alternatives-stand (k + length q) qs a.1)

  renamed-alternatives : (qs : List (List StepRead)) → map (map renamed) qs ≡ map (map (rename_plain f)) (map (map (plain_noted text)) qs)
  renamed-alternatives [] = refl
  renamed-alternatives (q ∷ qs) =
      ap₂ (λ (p : List (PlainStep ℕ)) (ps : List (List (PlainStep ℕ))). p ∷ ps) (sym (map-map (rename_plain f) (plain_noted text) q)) (renamed-alternatives qs)

  alternative-some : (k : ℕ) (q : List StepRead) → Alternative k q → 0 < length q
  alternative-some k [] a = absurd a
  alternative-some k (c ∷ cs) a = omega arith

  condition-stands : (k : ℕ) (qs : List (List StepRead)) → Alternatives k qs → condition_in steps (length (cells_of qs)) k ≡ rename_condition f (condition_of text qs)
  condition-stands k [] a = condition-none steps 0 k refl
  condition-stands k (q ∷ qs) a =
      let z = alternative-some k q a.0 in
      condition-some steps (length (cells_of (q ∷ qs))) k (λ e. omega (arith, length-append q (cells_of qs)))
      ∙ ap alternatives (alternatives-stand k (q ∷ qs) a ∙ renamed-alternatives (q ∷ qs))

  module _ (conditions : List ℕ) where
    -- ---- written steps from k on; the steps in their brackets are those from n on
    abbrev pub Stand : ℕ → ℕ → List Written → Type 0
    Stand k n [] = get_or conditions k 0 ≡ n
    Stand k n (w ∷ ws) = (get_or conditions k 0 ≡ n) × Stands k w.cell × Alternatives n w.paths × Stand (suc k) (n + length (cells_of w.paths)) ws

    stand-start : (k n : ℕ) (ws : List Written) → Stand k n ws → get_or conditions k 0 ≡ n
    stand-start k n [] S = S
    stand-start k n (w ∷ ws) S = S.0

    stand-append : (k n : ℕ) (ws vs : List Written) → Stand k n (ws ++ vs) → Stand k n ws × Stand (k + length ws) (n + length (cells_of (all_paths ws))) vs
    stand-append k n [] vs S = (stand-start k n vs S, subst (λ (j : ℕ). Stand j (n + 0) vs) (sym (add-zero k)) (subst (λ (m : ℕ). Stand k m vs) (sym (add-zero n)) S))
    stand-append k n (w ∷ ws) vs S =
        let z = stand-append (suc k) (n + length (cells_of w.paths)) ws vs S.3 in
        let a : suc k + length ws ≡ k + suc (length ws) = omega arith in
        let b : n + length (cells_of w.paths) + length (cells_of (all_paths ws)) ≡ n + length (cells_of (w.paths ++ all_paths ws)) =
        omega (arith, ap length (cells-append w.paths (all_paths ws)), length-append (cells_of w.paths) (cells_of (all_paths ws))) in (
          (S.0, S.1, S.2, z.0),
          subst (λ (m : ℕ). Stand (k + suc (length ws)) m vs) b (subst (λ (j : ℕ). Stand j (n + length (cells_of w.paths) + length (cells_of (all_paths ws))) vs) a z.1),
        )

    step-stands : (k n : ℕ) (w : Written) (ws : List Written) → Stand k n (w ∷ ws) → step_at steps conditions k ≡ rename_step f (step_noted text w)
    step-stands k n w ws S =
        let a : get_or conditions (k + 1) 0 ≡ n + length (cells_of w.paths) = ap (λ (j : ℕ). get_or conditions j 0) (add-one k) ∙ stand-start (suc k) _ ws S.3 in
        let e = S.0 in
        let b : get_or conditions (k + 1) 0 - get_or conditions k 0 ≡ length (cells_of w.paths) = omega arith in
        ap₂ (λ (x : WrittenAxis) (t : NodeTest ℕ). record { axis = x; test = t; condition = condition_at steps conditions k }) S.1.0 S.1.1
        ∙ ap (λ (z : Condition ℕ). record { axis = step_axis w.cell; test = rename_test f (step_test text w.cell); condition = z })
        (ap₂ (λ (x y : ℕ). condition_in steps x y) b e ∙ condition-stands n w.paths S.2)

    steps-stand : (k n : ℕ) (ws : List Written) → Stand k n ws → steps_in steps conditions (length ws) k ≡ map (λ w. rename_step f (step_noted text w)) ws
    unfolding steps_in
    steps-stand k n [] S = refl
    steps-stand k n (w ∷ ws) S =
        ap₂ (λ (x : WrittenStep ℕ (Condition ℕ)) (xs : List (WrittenStep ℕ (Condition ℕ))). x ∷ xs) (step-stands k n w ws S)
        (steps-stand (suc k) (n + length (cells_of w.paths)) ws S.3)

    -- ---- paths
    module _ (paths : List ℕ) where
      pub paths-stand : (i k n : ℕ) (ls : List Line) → get_or paths i 0 ≡ k → Holds 0 paths (suc i) (path_ends k ls) → Stand k n (all_steps ls)
          → bundle_in steps conditions paths (length ls) i ≡ map (λ l. rename_path f (path_noted text l).path) ls
      unfolding bundle_in
      paths-stand i k n [] e h S = refl
      paths-stand i k n (l ∷ ls) e h S =
          let z = stand-append k n l.steps (all_steps ls) S in
          let a : get_or paths (i + 1) 0 ≡ k + length l.steps = ap (λ (j : ℕ). get_or paths j 0) (add-one i) ∙ h.0 in
          let b : get_or paths (i + 1) 0 - get_or paths i 0 ≡ length l.steps = omega arith in
          ap₂ (λ (x : LocationPath ℕ) (xs : List (LocationPath ℕ)). x ∷ xs)
          (ap from_root_element
          (ap₂ (λ (x y : ℕ). steps_in steps conditions x y) b e ∙ steps-stand k n l.steps z.0 ∙ sym (map-map (rename_step f) (step_noted text) l.steps)))
          (paths-stand (suc i) (k + length l.steps) (n + length (cells_of (all_paths l.steps))) ls h.0 h.1 z.1)
