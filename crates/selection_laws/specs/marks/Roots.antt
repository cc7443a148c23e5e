-- The axes from the root: every other row is below it, none is above it, before it or after it. From no row nothing is reached.
use Rattle.std.specs.Prelude.{Bool, true, false, ◌&&◌, ◌||◌, ◌≡◌, ℕ, ◌<◌, get_or}
use Rattle.std.proofs.Math.Bool.{not, or-true, or-false}
use mathlib.Core.List.{List, [], ◌∷◌}
use Rattle.std.proofs.Common.{⊎_elim, ◌∙◌, eq-or-lt_of_le, arith, eq-eqb, ne_eqb, eqb→eq}
use Rattle.std.proofs.Math.Path.{refl, sym, ap, subst}
use Rattle.std.proofs.Math.Dec.{T, eqb}
use Rattle.std.proofs.Math.ListN.{length}
use Rattle.cells.specs.row_sets.Ancestors.{parent_of, ancestors_of, is_in, root-parent, root-ancestors, by-parents}
use Rattle.cells.specs.row_sets.Columns.{RowSet, is_marked, marks, intersection, marks-length, marks-cong, marks-marked}
use Rattle.path_spec.specs.Paths.{Axis, self, child, descendant, descendant_or_self, parent, ancestor, ancestor_or_self, WrittenAxis, along, following, following_sibling, preceding, preceding_sibling, WrittenStep, Condition}
use Rattle.schema_spec.specs.Names.{Name}
use Rattle.selection_laws.specs.marks.Backward.{ancestor-or-self-split}
use Rattle.selection_laws.specs.marks.Forward.{image-self, child-root, child-later, descendant-root, descendant-later, descendant-or-self-root, descendant-or-self-later}
use Rattle.selection_laws.specs.marks.Parents.{row_on_axis, reached_by, image, image_marks, image-cong}
use Rattle.selection_laws.specs.marks.Selection.{root_marks, no_marks, written_marks, test_marks, condition_marks, step_marks, steps_marks}
use Rattle.selection_laws.specs.marks.Siblings.{is_later_sibling, following_sibling_marks, preceding_sibling_marks}
use Rattle.table_laws.specs.Parents.{ParentsBefore}
use Rattle.text_laws.specs.Searches.{below-any, any-never}
use Rattle.text_laws.specs.Tests.{false_of, failed, and_cases}

-- the rows on an axis from the root
unfoldable pub root_image : Axis → List ℕ → RowSet
root_image self ps r = eqb r 0
root_image child ps r = not (eqb r 0) && eqb (get_or ps r 0) 0
root_image descendant ps r = not (eqb r 0)
root_image descendant_or_self ps r = true
root_image parent ps r = false
root_image ancestor ps r = false
root_image ancestor_or_self ps r = eqb r 0

module _ (ps : List ℕ) (before : ParentsBefore ps) where
  abbrev root : RowSet
  root r = eqb r 0

  -- the root, or a later row
  by_row : (P : ℕ → Type 0) → P 0 → ((r : ℕ) → 0 < r → P r) → (r : ℕ) → P r
  by_row P z s r = ⊎_elim (λ e. subst P e z) (λ l. s r l) (eq-or-lt_of_le {n = 0} {m = r} (omega arith))

  later-test : (r : ℕ) → 0 < r → eqb r 0 ≡ false
  later-test r l = ne_eqb r 0 (λ e. omega arith)

  all-below : (r : ℕ) → r < length ps → image descendant_or_self ps root r ≡ true
  all-below r l = by-parents ps before (λ q. image descendant_or_self ps root q ≡ true) (descendant-or-self-root ps before root (omega arith) ∙ eq-eqb 0 0 refl) later r l
    where
      later : (q : ℕ) → 0 < q → q < length ps → image descendant_or_self ps root (get_or ps q 0) ≡ true → image descendant_or_self ps root q ≡ true
      later q p b h = descendant-or-self-later ps before root q p b ∙ ap (λ (t : Bool). eqb q 0 || t) h ∙ or-true (eqb q 0)

  later-below : (r : ℕ) → 0 < r → r < length ps → image descendant ps root r ≡ true
  later-below = below
    where
      below : (r : ℕ) → 0 < r → r < length ps → image descendant ps root r ≡ true
      below r p l =
          by-parents ps before (λ q. 0 < q → image descendant ps root q ≡ true) (λ b. absurd (omega arith)) later r l p
        where
          later : (q : ℕ) → 0 < q → q < length ps → (0 < get_or ps q 0 → image descendant ps root (get_or ps q 0) ≡ true) → 0 < q → image descendant ps root q ≡ true
          later q b c h d = descendant-later ps before root q b c ∙ pick (get_or ps q 0) h
            where
              pick : (k : ℕ) → (0 < k → image descendant ps root k ≡ true) → (eqb k 0 || image descendant ps root k) ≡ true
              pick k g =
                  ⊎_elim (λ e. ap (λ (t : Bool). t || image descendant ps root k) (eq-eqb k 0 (sym e)))
                  (λ e. ap (λ (t : Bool). eqb k 0 || t) (g e) ∙ or-true (eqb k 0)) (eq-or-lt_of_le {n = 0} {m = k} (omega arith))

  none-up : (a : ℕ) → image ancestor ps root a ≡ false
  unfolding image row_on_axis
  none-up a =
      false_of _ (λ t.
      let q = below-any (length ps) (λ q. eqb q 0 && is_in a (ancestors_of ps q)) t in
      let c = and_cases (eqb q.0 0) (is_in a (ancestors_of ps q.0)) q.2 in
      subst T (ap (is_in a) (ap (ancestors_of ps) (eqb→eq q.0 0 c.0) ∙ root-ancestors ps)) c.1)

  no-parent : (a : ℕ) → image parent ps root a ≡ false
  unfolding image row_on_axis
  no-parent a =
      false_of _ (λ t.
      let q = below-any (length ps) (λ q. eqb q 0 && is_in a (parent_of ps q)) t in
      let c = and_cases (eqb q.0 0) (is_in a (parent_of ps q.0)) q.2 in
      subst T (ap (is_in a) (ap (parent_of ps) (eqb→eq q.0 0 c.0) ∙ root-parent ps)) c.1)

  pub root-image : (a : Axis) (r : ℕ) → r < length ps → image a ps root r ≡ root_image a ps r
  unfolding root_image
  root-image self r l = image-self ps before root r l
  root-image child r l =
      by_row (λ q. q < length ps → image child ps root q ≡ (not (eqb q 0) && eqb (get_or ps q 0) 0)) (λ b. child-root ps before root b)
      (λ q p b. child-later ps before root q p b ∙ sym (ap (λ (t : Bool). not t && eqb (get_or ps q 0) 0) (later-test q p))) r l
  root-image descendant r l =
      by_row (λ q. q < length ps → image descendant ps root q ≡ not (eqb q 0)) (λ b. descendant-root ps before root b)
      (λ q p b. later-below q p b ∙ sym (ap not (later-test q p))) r l
  root-image descendant_or_self r l = all-below r l
  root-image parent r l = no-parent r
  root-image ancestor r l = none-up r
  root-image ancestor_or_self r l = ancestor-or-self-split ps before root r l ∙ ap (λ (t : Bool). eqb r 0 || t) (none-up r) ∙ or-false (eqb r 0)

  -- the first step of a path needs no pass
  pub root-image-marks : (a : Axis) → image_marks a ps (root_marks (length ps)) ≡ marks (length ps) (root_image a ps)
  unfolding image_marks root_marks
  root-image-marks a =
      marks-cong (length ps) (image a ps (is_marked (marks (length ps) root))) (root_image a ps)
      (λ r l. image-cong a ps (is_marked (marks (length ps) root)) root (λ q b. marks-marked (length ps) root q b) r ∙ root-image a r l)

-- ---- from no row nothing is reached
reached-none : (leads : ℕ → ℕ → Bool) (n : ℕ) → marks n (reached_by leads n (is_marked (no_marks n))) ≡ no_marks n
reached-none leads n =
    marks-cong n (reached_by leads n (is_marked (no_marks n))) (λ r. false)
    (λ r l.
    any-never n (λ q. is_marked (no_marks n) q && leads q r) (λ q b t. failed (marks-marked n (λ i. false) q b) (and_cases (is_marked (no_marks n) q) (leads q r) t).0))

pub image-none : (a : Axis) (ps : List ℕ) → image_marks a ps (no_marks (length ps)) ≡ no_marks (length ps)
unfolding image_marks image
image-none a ps = reached-none (row_on_axis a ps) (length ps)

following-siblings-none : (ps : List ℕ) → following_sibling_marks ps (no_marks (length ps)) ≡ no_marks (length ps)
unfolding following_sibling_marks
following-siblings-none ps = reached-none (λ q r. is_later_sibling ps q r) (length ps)

preceding-siblings-none : (ps : List ℕ) → preceding_sibling_marks ps (no_marks (length ps)) ≡ no_marks (length ps)
unfolding preceding_sibling_marks
preceding-siblings-none ps = reached-none (λ q r. is_later_sibling ps r q) (length ps)

-- where the second of the three passes finds nothing, the third does
no-row-below : (ps m : List ℕ) → m ≡ no_marks (length ps) → image_marks descendant_or_self ps m ≡ no_marks (length ps)
no-row-below ps m e = ap (image_marks descendant_or_self ps) e ∙ image-none descendant_or_self ps

pub written_none : (a : WrittenAxis) (ps : List ℕ) → written_marks a ps (no_marks (length ps)) ≡ no_marks (length ps)
written_none (along a) ps = image-none a ps
written_none following ps = no-row-below ps _ (ap (following_sibling_marks ps) (image-none ancestor_or_self ps) ∙ following-siblings-none ps)
written_none following_sibling ps = following-siblings-none ps
written_none preceding ps = no-row-below ps _ (ap (preceding_sibling_marks ps) (image-none ancestor_or_self ps) ∙ preceding-siblings-none ps)
written_none preceding_sibling ps = preceding-siblings-none ps

-- ---- the written axes from the root
unfoldable pub root_written : WrittenAxis → List ℕ → RowSet
root_written (along a) ps r = root_image a ps r
root_written following ps r = false
root_written following_sibling ps r = false
root_written preceding ps r = false
root_written preceding_sibling ps r = false

-- a relation that leads nowhere from the root
reached-root : (leads : ℕ → ℕ → Bool) (n : ℕ) → ((r : ℕ) → T (leads 0 r) → ⊥) → marks n (reached_by leads n (is_marked (root_marks n))) ≡ no_marks n
unfolding root_marks
reached-root leads n none =
    marks-cong n (reached_by leads n (is_marked (root_marks n))) (λ r. false)
    (λ r l.
    any-never n (λ q. is_marked (root_marks n) q && leads q r) (λ q b t.
    let c = and_cases (is_marked (root_marks n) q) (leads q r) t in
    let e : q ≡ 0 = eqb→eq q 0 (subst T (marks-marked n (λ i. eqb i 0) q b) c.0) in
    none r (subst (λ (k : ℕ). T (leads k r)) e c.1)))

root-following-siblings : (ps : List ℕ) → following_sibling_marks ps (root_marks (length ps)) ≡ no_marks (length ps)
unfolding following_sibling_marks is_later_sibling
root-following-siblings ps = reached-root (λ q r. is_later_sibling ps q r) (length ps) (λ r t. t)

root-preceding-siblings : (ps : List ℕ) → preceding_sibling_marks ps (root_marks (length ps)) ≡ no_marks (length ps)
unfolding preceding_sibling_marks is_later_sibling
root-preceding-siblings ps =
    reached-root (λ q r. is_later_sibling ps r q) (length ps) (λ r t. (and_cases (not (eqb r 0)) false t).1)

module _ (ps : List ℕ) (before : ParentsBefore ps) where
  -- the root is above itself alone
  root-above : image_marks ancestor_or_self ps (root_marks (length ps)) ≡ root_marks (length ps)
  unfolding root_image root_marks
  root-above = root-image-marks ps before ancestor_or_self

  pub root-written-marks : (a : WrittenAxis) → written_marks a ps (root_marks (length ps)) ≡ marks (length ps) (root_written a ps)
  unfolding root_written
  root-written-marks (along a) = root-image-marks ps before a
  root-written-marks following = no-row-below ps _ (ap (following_sibling_marks ps) root-above ∙ root-following-siblings ps)
  root-written-marks following_sibling = root-following-siblings ps
  root-written-marks preceding = no-row-below ps _ (ap (preceding_sibling_marks ps) root-above ∙ root-preceding-siblings ps)
  root-written-marks preceding_sibling = root-preceding-siblings ps

-- ---- a path from no row
pub intersection-none : (n : ℕ) (k : List ℕ) → intersection (no_marks n) k ≡ no_marks n
unfolding intersection
intersection-none n k =
    ap (λ (l : ℕ). marks l (λ r. is_marked (no_marks n) r && is_marked k r)) (marks-length n (λ i. false))
    ∙ marks-cong n (λ r. is_marked (no_marks n) r && is_marked k r) (λ r. false) (λ r l. ap (λ (b : Bool). b && is_marked k r) (marks-marked n (λ i. false) r l))

module _ (ps : List ℕ) (ns : List Name) where
  pub step-none : (p : WrittenStep ℕ (Condition ℕ)) → step_marks ps ns p (no_marks (length ps)) ≡ no_marks (length ps)
  unfolding step_marks
  step-none p =
      ap (λ (m : List ℕ). intersection (intersection m (test_marks p.test ns)) (condition_marks ps ns p.condition)) (written_none p.axis ps)
      ∙ ap (λ (m : List ℕ). intersection m (condition_marks ps ns p.condition)) (intersection-none (length ps) (test_marks p.test ns))
      ∙ intersection-none (length ps) (condition_marks ps ns p.condition)

  pub steps-none : (path : List (WrittenStep ℕ (Condition ℕ))) → steps_marks ps ns path (no_marks (length ps)) ≡ no_marks (length ps)
  unfolding steps_marks
  steps-none [] = refl
  steps-none (p ∷ path) = ap (steps_marks ps ns path) (step-none p) ∙ steps-none path
