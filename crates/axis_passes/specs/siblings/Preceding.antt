-- The pass for siblings before a marked row, with the rows from r on behind it: the cells before r say whether a marked child was passed.
use Rattle.std.specs.Prelude.{Bool, true, false, ◌&&◌, List, ◌≡◌, refl, ℕ, zero, suc, ◌-◌, ◌<◌, ◌≤◌, T, eqb, length, get_or, set, replicate}
use Rattle.std.proofs.Common.{sym, ap, ◌∙◌, arith, eqb-true, leb→le, le→leb, length-set, ext_get_or, get_or-set_same, get_or-set_other}
use Rattle.std.proofs.lemmas.Bool.{eqb-false}
use Rattle.std.specs.Int.Bits.{bit_or}
use Rattle.std.proofs.Math.Dec.{leb}
use Rattle.std.proofs.lemmas.List.{length-replicate}
use Rattle.axis_passes.specs.siblings.Siblings.{child-of-own}
use Rattle.cells.specs.row_sets.Ancestors.{parent_of, is_in}
use Rattle.cells.specs.row_sets.Columns.{RowSet, mark, is_marked, marks-length, marks-at}
use Rattle.selection_laws.specs.marks.Backward.{propagated, parent-of}
use Rattle.selection_laws.specs.marks.Order.{test-sibling, sibling-test}
use Rattle.selection_laws.specs.marks.Parents.{reached_by}
use Rattle.selection_laws.specs.marks.Passes.{AxisPass, to-parent, propagating, initial, propagated_marks, propagated-length, parents-start, parents-turn}
use Rattle.selection_laws.specs.marks.Siblings.{is_later_sibling, preceding_sibling_marks}
use Rattle.table_laws.specs.Parents.{ParentsBefore}
use Rattle.text_laws.specs.Searches.{below-any, any_below_lem, any-never}
use Rattle.text_laws.specs.Tests.{and_intro, and_cases, same_test}
use Rattle.text_spec.specs.Lists.{any_below}

module _ (ps : List ℕ) (before : ParentsBefore ps) (f : RowSet) where
  abbrev earlier : ℕ → RowSet
  earlier r q = f q && is_later_sibling ps r q

  -- the root is no sibling of a row
  preceding-root : reached_by (λ q r. is_later_sibling ps r q) (length ps) f 0 ≡ false
  preceding-root =
      any-never (length ps) (earlier 0) (λ q l t.
      let s : 0 < 0 = (test-sibling ps 0 q (and_cases (f q) (is_later_sibling ps 0 q) t).1).later in
      omega arith)

  preceding-later : (r : ℕ) → 0 < r → r < length ps → reached_by (λ q r. is_later_sibling ps r q) (length ps) f r ≡ propagated ps (λ c. false) f (suc r) (get_or ps r 0)
  unfolding propagated
  preceding-later r p l = same_test (any_below (length ps) (earlier r)) (any_below (length ps) hits) to from
    where
      hits : RowSet
      hits c = leb (suc r) c && (f c && is_in (get_or ps r 0) (parent_of ps c))

      to : T (any_below (length ps) (earlier r)) → T (any_below (length ps) hits)
      to t =
          let q = below-any (length ps) (earlier r) t in
          let c = and_cases (f q.0) (is_later_sibling ps r q.0) q.2 in
          let s = test-sibling ps r q.0 c.1 in
          any_below_lem (length ps) hits q.0 q.1
          (and_intro (leb (suc r) q.0) _ (le→leb (suc r) q.0 s.in_order)
          (and_intro (f q.0) _ c.0 (child-of-own ps q.0 (get_or ps r 0) (omega (arith, s.in_order)) s.one_parent)))

      from : T (any_below (length ps) hits) → T (any_below (length ps) (earlier r))
      from t =
          let q = below-any (length ps) hits t in
          let a = and_cases (leb (suc r) q.0) (f q.0 && is_in (get_or ps r 0) (parent_of ps q.0)) q.2 in
          let c = and_cases (f q.0) (is_in (get_or ps r 0) (parent_of ps q.0)) a.1 in
          let s = parent-of ps before (get_or ps r 0) q.0 q.1 c.1 in
          any_below_lem (length ps) (earlier r) q.0 q.1
          (and_intro (f q.0) _ c.0 (sibling-test ps r q.0 (record { later = p; one_parent = s.1; in_order = leb→le (suc r) q.0 a.0 })))

preceding-at : (ps m : List ℕ) (r : ℕ) → r < length ps → get_or (preceding_sibling_marks ps m) r 0 ≡ mark (reached_by (λ q r. is_later_sibling ps r q) (length ps) (is_marked m) r)
unfolding preceding_sibling_marks
preceding-at ps m r l = marks-at (length ps) (reached_by (λ q r. is_later_sibling ps r q) (length ps) (is_marked m)) r l

preceding-length : (ps m : List ℕ) → length (preceding_sibling_marks ps m) ≡ length ps
unfolding preceding_sibling_marks
preceding-length ps m = marks-length (length ps) (reached_by (λ q r. is_later_sibling ps r q) (length ps) (is_marked m))

-- what the cell of a row's parent says is the row's own mark
child-passed-at : (ps m : List ℕ) → ParentsBefore ps → (r : ℕ) → 0 < r → r < length ps → get_or (propagated_marks to-parent ps m (suc r)) (get_or ps r 0) 0 ≡ get_or (preceding_sibling_marks ps m) r 0
unfolding propagated_marks propagating initial
child-passed-at ps m before r p l =
    marks-at (length ps) (propagated ps (λ c. false) (is_marked m) (suc r)) (get_or ps r 0) (omega (arith, before r p l))
    ∙ sym (preceding-at ps m r l ∙ ap mark (preceding-later ps before (is_marked m) r p l))

-- ---- the pass with the rows from r on behind it
pub record Preceding (ps m : List ℕ) (r : ℕ) (out : List ℕ) : Type 0 where
  pub pass : AxisPass ps m out
  pub some : 0 < r
  pub within : r ≤ length ps
  pub child-passed : (k : ℕ) → k < r → get_or out k 0 ≡ get_or (propagated_marks to-parent ps m r) k 0
  pub done : (k : ℕ) → r ≤ k → k < length ps → get_or out k 0 ≡ get_or (preceding_sibling_marks ps m) k 0

pub preceding-begun : (ps m was out : List ℕ) → AxisPass ps m was → out ≡ replicate (length was) 0 → Preceding ps m (length out) out
preceding-begun ps m was out h e =
    record {
      pass = record { before = h.before; filled = h.filled; marked = h.marked; size = h.size; room = long };
      some = omega (arith, h.filled, long);
      within = omega (arith, long);
      child-passed = λ k l. ap (λ (o : List ℕ). get_or o k 0) (e ∙ ap (λ (n : ℕ). replicate n 0) h.room ∙ parents-start ps m was h ∙ ap (propagated_marks to-parent ps m) (sym long));
      done = λ k a b. absurd (omega (arith, long));
    }
  where
    long : length out ≡ length ps
    long = ap length e ∙ length-replicate (length was) 0 ∙ h.room

-- a turn at row r - 1
module _ (ps m : List ℕ) (r : ℕ) (out : List ℕ) (w : Preceding ps m r out) (more : 1 < r) where
  parent-before : get_or ps (r - 1) 0 < r - 1
  parent-before = w.pass.before (r - 1) (omega arith) (omega (arith, w.within))

  abbrev at : ℕ
  at = get_or ps (r - 1) 0

  abbrev met : ℕ
  met = bit_or (get_or out at 0) (get_or m (r - 1) 0)

  abbrev shown : List ℕ
  shown = set out (r - 1) (get_or out at 0)

  pub parent-inside : at < length out
  parent-inside = omega (arith, w.pass.room, w.within, parent-before)

  pub parent-kept : at < length shown
  parent-kept = omega (arith, length-set out (r - 1) (get_or out at 0), parent-inside)

  pub preceding-next : Preceding ps m (r - 1) (set shown at met)
  preceding-next =
      record {
        pass = record { before = w.pass.before; filled = w.pass.filled; marked = w.pass.marked; size = w.pass.size; room = long ∙ w.pass.room };
        some = omega arith;
        within = omega (arith, w.within);
        child-passed = λ k l. child-passed k l (eqb k at) refl;
        done = λ k a b. get_or-set_other shown at k met 0 (λ e. omega (arith, parent-before)) ∙ done k a b (eqb k (r - 1)) refl;
      }
    where
      long : length (set shown at met) ≡ length out
      long = length-set shown at met ∙ length-set out (r - 1) (get_or out at 0)

      -- the cells before and after the turn
      held : List ℕ
      held = propagated_marks to-parent ps m r

      same : suc (r - 1) ≡ r
      same = omega arith

      turn : set held at (bit_or (get_or held at 0) (get_or m (r - 1) 0)) ≡ propagated_marks to-parent ps m (r - 1)
      turn =
          ap (λ (i : ℕ). let l = propagated_marks to-parent ps m i in set l at (bit_or (get_or l at 0) (get_or m (r - 1) 0))) (sym same)
          ∙ parents-turn ps m out w.pass (r - 1) (omega arith) (omega (arith, w.within))

      seen : get_or out at 0 ≡ get_or held at 0
      seen = w.child-passed at (omega (arith, parent-before))

      child-passed : (k : ℕ) → k < r - 1 → (b : Bool) → eqb k at ≡ b → get_or (set shown at met) k 0 ≡ get_or (propagated_marks to-parent ps m (r - 1)) k 0
      child-passed k l true q =
          let z : k ≡ at = eqb-true k at q in
          rw z
          (get_or-set_same shown at met 0 parent-kept
          ∙ ap (λ (x : ℕ). bit_or x (get_or m (r - 1) 0)) seen
          ∙ sym (get_or-set_same held at (bit_or (get_or held at 0) (get_or m (r - 1) 0)) 0 (omega (arith, propagated-length to-parent ps m r, w.within, parent-before)))
          ∙ ap (λ (o : List ℕ). get_or o at 0) turn)
      child-passed k l false q =
          let d : k ≡ at → ⊥ = eqb-false k at q in
          get_or-set_other shown at k met 0 d ∙ get_or-set_other out (r - 1) k (get_or out at 0) 0 (λ e. omega arith) ∙ w.child-passed k (omega arith)
          ∙ sym (get_or-set_other held at k (bit_or (get_or held at 0) (get_or m (r - 1) 0)) 0 d) ∙ ap (λ (o : List ℕ). get_or o k 0) turn

      done : (k : ℕ) → r - 1 ≤ k → k < length ps → (b : Bool) → eqb k (r - 1) ≡ b → get_or shown k 0 ≡ get_or (preceding_sibling_marks ps m) k 0
      done k a b true q =
          let z : k ≡ r - 1 = eqb-true k (r - 1) q in
          rw z
          (get_or-set_same out (r - 1) (get_or out at 0) 0 (omega (arith, w.pass.room, w.within)) ∙ seen
          ∙ ap (λ (i : ℕ). get_or (propagated_marks to-parent ps m i) at 0) (sym same)
          ∙ child-passed-at ps m w.pass.before (r - 1) (omega arith) (omega (arith, w.within)))
      done k a b false q =
          let d : k ≡ r - 1 → ⊥ = eqb-false k (r - 1) q in
          get_or-set_other out (r - 1) k (get_or out at 0) 0 d ∙ w.done k (omega arith) b

pub preceding-all : (ps m : List ℕ) (r : ℕ) (out : List ℕ) → Preceding ps m r out → r ≤ 1 → set out 0 0 ≡ preceding_sibling_marks ps m
preceding-all ps m r out w l = ext_get_or 0 (set out 0 0) (preceding_sibling_marks ps m) (length-set out 0 0 ∙ w.pass.room ∙ sym (preceding-length ps m)) row
  where
    row : (k : ℕ) → k < length (set out 0 0) → get_or (set out 0 0) k 0 ≡ get_or (preceding_sibling_marks ps m) k 0
    row zero b =
        get_or-set_same out 0 0 0 (omega (arith, w.pass.room, w.pass.filled))
        ∙ sym (preceding-at ps m 0 w.pass.filled ∙ ap mark (preceding-root ps w.pass.before (is_marked m)))
    row (suc k) b =
        get_or-set_other out 0 (suc k) 0 0 (λ e. omega arith) ∙ w.done (suc k) (omega arith) (omega (arith, length-set out 0 0, w.pass.room))
