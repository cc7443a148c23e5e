-- Written steps keep their number through the expansion, and their test and condition stand on the last part.
use mathlib.Core.List.Memᴰ.{append_cases}
use mathlib.Core.List.Memᴰ.{head as here}
use mathlib.Core.List.Memᴰ.{tail as there}
use mathlib.Core.List.{List, [], ◌∷◌, ◌++◌, Memᴰ as In}
use Rattle.std.specs.Prelude.{◌⊎◌, ◌≡◌, refl, ℕ, suc, ◌+◌}
use Rattle.std.proofs.Common.{inl, inr, sym, ap, subst, arith}
use Rattle.std.proofs.Math.Option.{some}
use Rattle.std.proofs.Math.ListN.{get_elem?}
use Rattle.path_spec.specs.Paths.{Axis, child, descendant_or_self, parent, ancestor_or_self, WrittenAxis, along, following, following_sibling, preceding, preceding_sibling, NodeTest, any_node, WrittenStep, Step, passing, sibling_steps, expand_step, expand_from}

-- the axis of the last part of a written step
abbrev pub last_axis : WrittenAxis → Axis
last_axis (along a) = a
last_axis following = descendant_or_self
last_axis following_sibling = child
last_axis preceding = descendant_or_self
last_axis preceding_sibling = child

module _ {A C : Type 0} (no_condition : C) where
  -- ---- the parts of a written step
  -- the steps in front of its last part
  abbrev pub passing_steps : ℕ → WrittenAxis → List (Step A C)
  passing_steps i (along a) = []
  passing_steps i following = passing no_condition i ancestor_or_self ∷ sibling_steps no_condition i any_node no_condition
  passing_steps i following_sibling = passing no_condition i parent ∷ []
  passing_steps i preceding = passing no_condition i ancestor_or_self ∷ sibling_steps no_condition i any_node no_condition
  passing_steps i preceding_sibling = passing no_condition i parent ∷ []

  -- the condition of a rewritten step stands on its last part, and so does its test
  pub step-parts : (i : ℕ) (a : WrittenAxis) (t : NodeTest A) (c : C)
      → expand_step no_condition i a t c ≡ passing_steps i a ++ (record { written = i; axis = last_axis a; test = t; condition = c } ∷ [])
  step-parts i (along a) t c = refl
  step-parts i following t c = refl
  step-parts i following_sibling t c = refl
  step-parts i preceding t c = refl
  step-parts i preceding_sibling t c = refl

  -- a step in front of it: `node()` without a condition, of the same number
  pub data Passing (i : ℕ) : Step A C → Type 0 where
    passing-along : (a : Axis) → Passing i (passing no_condition i a)

  by-parent : (i : ℕ) (q : Step A C) → In q (passing no_condition i parent ∷ []) → Passing i q
  by-parent i q (here e) = rw e (passing-along parent)
  by-parent i q (there m) = elim m [ ]

  by_order : (i : ℕ) (q : Step A C) → In q (passing no_condition i ancestor_or_self ∷ sibling_steps no_condition i any_node no_condition) → Passing i q
  by_order i q (here e) = rw e (passing-along ancestor_or_self)
  by_order i q (there (here e)) = rw e (passing-along parent)
  by_order i q (there (there (here e))) = rw e (passing-along child)
  by_order i q (there (there (there m))) = elim m [ ]

  pub passing-steps : (i : ℕ) (a : WrittenAxis) (q : Step A C) → In q (passing_steps i a) → Passing i q
  passing-steps i (along a) q m = elim m [ ]
  passing-steps i following q m = by_order i q m
  passing-steps i following_sibling q m = by-parent i q m
  passing-steps i preceding q m = by_order i q m
  passing-steps i preceding_sibling q m = by-parent i q m

  step-numbered : (i : ℕ) (a : WrittenAxis) (t : NodeTest A) (c : C) (q : Step A C) → In q (expand_step no_condition i a t c) → q.written ≡ i
  step-numbered i a t c q m = by (append_cases (passing_steps i a) (subst (In q) (step-parts i a t c) m))
    where
      of-passing : {p : Step A C} → Passing i p → p.written ≡ i
      of-passing (passing-along b) = refl

      by : In q (passing_steps i a) ⊎ In q (record { written = i; axis = last_axis a; test = t; condition = c } ∷ []) → q.written ≡ i
      by (inl n) = of-passing (passing-steps i a q n)
      by (inr (here e)) = ap (λ (p : Step A C). p.written) e
      by (inr (there n)) = elim n [ ]

  -- a step by which the written steps ps are analysed, the first of them having the number i: it is one of those of the written step
  -- whose number it has
  pub record ComesFrom (i : ℕ) (ps : List (WrittenStep A C)) (q : Step A C) : Type 0 where
    pub place : ℕ
    pub step : WrittenStep A C
    pub present : get_elem? ps place ≡ some step
    pub number : q.written ≡ i + place
    pub analysed : In q (expand_step no_condition q.written step.axis step.test step.condition)

  pub expanded-from : (i : ℕ) (ps : List (WrittenStep A C)) (q : Step A C) → In q (expand_from no_condition i ps) → ComesFrom i ps q
  expanded-from i [] q m = elim m [ ]
  expanded-from i (p ∷ ps) q m = by (append_cases (expand_step no_condition i p.axis p.test p.condition) m) (expanded-from (suc i) ps q)
    where
      by : In q (expand_step no_condition i p.axis p.test p.condition) ⊎ In q (expand_from no_condition (suc i) ps)
          → (In q (expand_from no_condition (suc i) ps) → ComesFrom (suc i) ps q) → ComesFrom i (p ∷ ps) q
      by (inl n) later =
          let e = step-numbered i p.axis p.test p.condition q n in
          record {
            place = 0;
            step = p;
            present = refl;
            number = omega arith;
            analysed = subst (λ (j : ℕ). In q (expand_step no_condition j p.axis p.test p.condition)) (sym e) n;
          }
      by (inr n) later =
          let r = later n in
          record { place = suc r.place; step = r.step; present = r.present; number = omega arith; analysed = r.analysed }
