-- Compiled paths: what a step stands for, and steps, conditions and paths by the ranges that they take.
use Rattle.std.specs.Prelude.{Bool, cond, not, ◌≡◌, get_or}
use Rattle.std.proofs.Math.Bool.{true, false}
use mathlib.Core.List.{List, [], ◌∷◌}
use Rattle.std.proofs.Math.Path.{refl}
use Rattle.std.proofs.Common.{ap, ap₂, ◌∙◌}
use Prim.Native.Nat.{ℕ, zero, suc, ◌+◌, ◌-◌, ◌≤◌, ◌<◌}
use Rattle.std.proofs.Math.Numerals.{add-one, sub-one}
use native.Mathlib.Omega.{arith}
use Rattle.compiled_paths.specs.declared.Axis.{Axis}
use Rattle.compiled_paths.specs.declared.Axis.TheVariants.{SelfNode, Child, Descendant, DescendantOrSelf, Parent, Ancestor, AncestorOrSelf, Following, FollowingSibling, Preceding, PrecedingSibling}
use Rattle.compiled_paths.specs.declared.NodeTest.{NodeTest}
use Rattle.compiled_paths.specs.declared.NodeTest.TheVariants.{Node, Text, Element}
use Rattle.compiled_paths.specs.declared.Step.{Step}
use Rattle.path_spec.specs.Paths as paths
use Rattle.path_spec.specs.Paths.{self, child, descendant, descendant_or_self, parent, ancestor, ancestor_or_self, WrittenAxis, along, following, following_sibling, preceding, preceding_sibling, named, any_node, any_text, WrittenStep, PlainStep, Condition, unconditional, alternatives, LocationPath, from_root_element}

-- ---- one step
-- one of the seven axes; self stands for the four of document 02, R-1
abbrev pub axis_of : Axis → paths.Axis
axis_of Child = child
axis_of Descendant = descendant
axis_of DescendantOrSelf = descendant_or_self
axis_of Parent = parent
axis_of Ancestor = ancestor
axis_of AncestorOrSelf = ancestor_or_self
axis_of SelfNode = self
axis_of Following = self
axis_of FollowingSibling = self
axis_of Preceding = self
axis_of PrecedingSibling = self

-- a written axis: one of the seven, or of the four of document 02, R-1
abbrev pub written_axis : Axis → WrittenAxis
written_axis Following = following
written_axis FollowingSibling = following_sibling
written_axis Preceding = preceding
written_axis PrecedingSibling = preceding_sibling
written_axis SelfNode = along self
written_axis Child = along child
written_axis Descendant = along descendant
written_axis DescendantOrSelf = along descendant_or_self
written_axis Parent = along parent
written_axis Ancestor = along ancestor
written_axis AncestorOrSelf = along ancestor_or_self

-- any node, any text, or one element by its index
abbrev pub node_test : NodeTest → paths.NodeTest ℕ
node_test Node = any_node
node_test Text = any_text
node_test (Element e) = named e

-- the step in a cell that nothing was written to, and past the last cell
abbrev pub no_step : Step
no_step = record { axis = SelfNode; test = Element 0; ends_alternative = false }

abbrev pub step_in : List Step → ℕ → Step
step_in steps k = get_or steps k no_step

-- ---- ranges: the range i is from the cell i of a column of starts up to the next cell
abbrev pub start_at : List ℕ → ℕ → ℕ
start_at starts i = get_or starts i 0

abbrev pub size_at : List ℕ → ℕ → ℕ
size_at starts i = get_or starts (i + 1) 0 - get_or starts i 0

abbrev pub end_at : List ℕ → ℕ → ℕ
end_at starts i = start_at starts i + size_at starts i

-- ---- a step before alternatives: the first step of the first of them where its alternative goes on, else an alternative of its own
unfoldable pub joined : {A : Type 0} → Bool → A → List (List A) → List (List A)
joined true p [] = (p ∷ []) ∷ []
joined true p (q ∷ qs) = (p ∷ q) ∷ qs
joined false p qs = (p ∷ []) ∷ qs

module _ (steps : List Step) where
  -- no alternative ends with the step k
  abbrev pub goes_on : ℕ → Bool
  goes_on k = not (step_in steps k).ends_alternative

  -- how many steps the first alternative has of those that take n steps from k on
  unfoldable pub first_size : ℕ → ℕ → ℕ
  first_size zero k = 0
  first_size (suc n) k = suc (cond (goes_on k) (first_size n (suc k)) 0)

  pub first-size-none : (n k : ℕ) → n ≡ 0 → first_size n k ≡ 0
  unfolding first_size
  first-size-none n k e = rw e

  pub first-size-last : (n k : ℕ) → (n ≡ 0 → ⊥) → (step_in steps k).ends_alternative ≡ true → first_size n k ≡ 1
  unfolding first_size
  first-size-last zero k d h = absurd (d refl)
  first-size-last (suc n) k d h = rw h

  pub first-size-next : (n k : ℕ) → (n ≡ 0 → ⊥) → (step_in steps k).ends_alternative ≡ false → first_size n k ≡ suc (first_size (n - 1) (k + 1))
  unfolding first_size
  first-size-next zero k d h = absurd (d refl)
  first-size-next (suc n) k d h = rw (h, sub-one (suc n), add-one k)

  pub first-size-fits : (n k : ℕ) → first_size n k ≤ n
  unfolding first_size
  first-size-fits zero k = omega arith
  first-size-fits (suc n) k = pick (goes_on k) (first-size-fits n (suc k))
    where
      pick : (b : Bool) → first_size n (suc k) ≤ n → suc (cond b (first_size n (suc k)) 0) ≤ suc n
      pick true h = omega arith
      pick false h = omega arith

  pub first-size-some : (n k : ℕ) → (n ≡ 0 → ⊥) → 0 < first_size n k
  unfolding first_size
  first-size-some zero k d = absurd (d refl)
  first-size-some (suc n) k d = omega arith

-- a step without brackets
abbrev pub plain_step : Step → PlainStep ℕ
plain_step p = record { axis = written_axis p.axis; test = node_test p.test; condition = tt }

module _ (steps : List Step) where
  -- ---- n steps without brackets from k on
  abbrev pub plain_at : ℕ → PlainStep ℕ
  plain_at k = plain_step (step_in steps k)

  unfoldable pub plain_in : ℕ → ℕ → List (PlainStep ℕ)
  plain_in zero k = []
  plain_in (suc n) k = plain_at k ∷ plain_in n (suc k)

  pub plain-next : (n k : ℕ) → (n ≡ 0 → ⊥) → plain_in n k ≡ plain_at k ∷ plain_in (n - 1) (k + 1)
  unfolding plain_in
  plain-next zero k d = absurd (d refl)
  plain-next (suc n) k d = rw (sub-one (suc n), add-one k)

  pub plain-none : (n k : ℕ) → n ≡ 0 → plain_in n k ≡ []
  unfolding plain_in
  plain-none n k e = rw e

  -- ---- the alternatives that take n steps from k on
  unfoldable pub alternatives_in : ℕ → ℕ → List (List (PlainStep ℕ))
  alternatives_in zero k = []
  alternatives_in (suc n) k = joined (goes_on steps k) (plain_at k) (alternatives_in n (suc k))

  pub alternatives-none : (n k : ℕ) → n ≡ 0 → alternatives_in n k ≡ []
  unfolding alternatives_in
  alternatives-none n k e = rw e

  -- the first of them, and those after it
  pub alternatives-next : (n k : ℕ) → (n ≡ 0 → ⊥) → alternatives_in n k ≡ plain_in (first_size steps n k) k ∷ alternatives_in (n - first_size steps n k) (k + first_size steps n k)
  unfolding alternatives_in first_size plain_in joined
  alternatives-next zero k d = absurd (d refl)
  alternatives-next (suc zero) k d = pick (goes_on steps k)
    where
      pick : (b : Bool) → joined b (plain_at k) [] ≡ (plain_at k ∷ plain_in (cond b 0 0) (suc k)) ∷ alternatives_in (1 - suc (cond b 0 0)) (k + suc (cond b 0 0))
      pick true = refl
      pick false = refl
  alternatives-next (suc (suc n)) k d = pick (goes_on steps k) (alternatives-next (suc n) (suc k) (λ e. omega arith))
    where
      f : ℕ
      f = first_size steps (suc n) (suc k)

      pick : (b : Bool) → alternatives_in (suc n) (suc k) ≡ plain_in f (suc k) ∷ alternatives_in (suc n - f) (suc k + f)
          → joined b (plain_at k) (alternatives_in (suc n) (suc k)) ≡ (plain_at k ∷ plain_in (cond b f 0) (suc k)) ∷ alternatives_in (suc (suc n) - suc (cond b f 0)) (k + suc (cond b f 0))
      pick true z =
          let x : suc n - f ≡ suc (suc n) - suc f = omega arith in
          let y : suc k + f ≡ k + suc f = omega arith in
          ap (joined true (plain_at k)) z ∙ ap₂ (λ (m j : ℕ). (plain_at k ∷ plain_in f (suc k)) ∷ alternatives_in m j) x y
      pick false z =
          let x : suc n ≡ suc (suc n) - 1 = omega arith in
          let y : suc k ≡ k + 1 = omega arith in
          ap₂ (λ (m j : ℕ). (plain_at k ∷ []) ∷ alternatives_in m j) x y

  -- a condition has a step
  unfoldable pub condition_in : ℕ → ℕ → Condition ℕ
  condition_in zero k = unconditional
  condition_in (suc n) k = alternatives (alternatives_in (suc n) k)

  pub condition-none : (n k : ℕ) → n ≡ 0 → condition_in n k ≡ unconditional
  unfolding condition_in
  condition-none n k e = rw e

  pub condition-some : (n k : ℕ) → (n ≡ 0 → ⊥) → condition_in n k ≡ alternatives (alternatives_in n k)
  unfolding condition_in
  condition-some zero k d = absurd (d refl)
  condition-some (suc n) k d = refl

  module _ (conditions : List ℕ) where
    -- ---- n written steps from k on; the steps in the alternatives of each are a range
    abbrev pub condition_at : ℕ → Condition ℕ
    condition_at k = condition_in (size_at conditions k) (start_at conditions k)

    abbrev pub step_at : ℕ → WrittenStep ℕ (Condition ℕ)
    step_at k = record { axis = written_axis (step_in steps k).axis; test = node_test (step_in steps k).test; condition = condition_at k }

    unfoldable pub steps_in : ℕ → ℕ → List (WrittenStep ℕ (Condition ℕ))
    steps_in zero k = []
    steps_in (suc n) k = step_at k ∷ steps_in n (suc k)

    pub steps_next : (n k : ℕ) → (n ≡ 0 → ⊥) → steps_in n k ≡ step_at k ∷ steps_in (n - 1) (k + 1)
    unfolding steps_in
    steps_next zero k d = absurd (d refl)
    steps_next (suc n) k d = rw (sub-one (suc n), add-one k)

    pub steps-none : (n k : ℕ) → n ≡ 0 → steps_in n k ≡ []
    unfolding steps_in
    steps-none n k e = rw e

    module _ (paths : List ℕ) where
      -- ---- n paths from i on; the written steps of each are a range
      abbrev pub path_at : ℕ → LocationPath ℕ
      path_at i = from_root_element (steps_in (size_at paths i) (start_at paths i))

      unfoldable pub bundle_in : ℕ → ℕ → List (LocationPath ℕ)
      bundle_in zero i = []
      bundle_in (suc n) i = path_at i ∷ bundle_in n (suc i)

      pub bundle-next : (n i : ℕ) → (n ≡ 0 → ⊥) → bundle_in n i ≡ path_at i ∷ bundle_in (n - 1) (i + 1)
      unfolding bundle_in
      bundle-next zero i d = absurd (d refl)
      bundle-next (suc n) i d = rw (sub-one (suc n), add-one i)

      pub bundle-none : (n i : ℕ) → n ≡ 0 → bundle_in n i ≡ []
      unfolding bundle_in
      bundle-none n i e = rw e
