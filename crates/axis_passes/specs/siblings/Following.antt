-- The pass for siblings after a marked row: with r rows behind it, the cells before r of the column that it uses up say whether a marked child was passed.
use Rattle.std.specs.Prelude.{Bool, true, false, ◌&&◌, ◌||◌, List, ◌≡◌, refl, ℕ, zero, suc, ◌+◌, ◌<◌, ◌≤◌, eqb, length, get_or, set}
use Rattle.std.proofs.Math.Bool.{or-false, and-true, and-false}
use Rattle.std.proofs.Common.{sym, subst, ◌∙◌, add-one, arith, eqb-true, length-set, get_or-set_same, get_or-set_other}
use Rattle.std.proofs.Math.Path.{ap}
use Rattle.std.proofs.lemmas.Bool.{eqb-false}
use Rattle.std.specs.Int.Bits.{bit_or}
use Rattle.std.proofs.Math.Dec.{T}
use Rattle.axis_passes.specs.siblings.Siblings.{child-of-own}
use Rattle.cells.specs.row_sets.Ancestors.{parent_of, is_in, later-parent}
use Rattle.cells.specs.row_sets.Columns.{RowSet, mark, is_marked, OnlyMarks, marks-length, marks-at, marks-cong, marks-by-rows, mark-at}
use Rattle.cells.specs.row_sets.Loops.{Forward, forward-next, forward-all, or-marks}
use Rattle.selection_laws.specs.marks.Backward.{parent-of}
use Rattle.selection_laws.specs.marks.Order.{test-sibling, sibling-test}
use Rattle.selection_laws.specs.marks.Parents.{reached_by}
use Rattle.selection_laws.specs.marks.Passes.{AxisPass}
use Rattle.selection_laws.specs.marks.Siblings.{is_later_sibling, following_sibling_marks}
use Rattle.table_laws.specs.Parents.{ParentsBefore}
use Rattle.text_laws.specs.Searches.{below-any, any_below_lem, any-cong, any-never}
use Rattle.text_laws.specs.Tests.{and_intro, and_cases, same_test}
use Rattle.text_spec.specs.Lists.{any_below}

-- the parents of those rows of a set that are before r
unfoldable pub parents_before : List ℕ → RowSet → ℕ → RowSet
parents_before ps f r a = any_below r (λ c. f c && is_in a (parent_of ps c))

module _ (ps : List ℕ) (before : ParentsBefore ps) (f : RowSet) where
  abbrev hits : ℕ → RowSet
  hits a c = f c && is_in a (parent_of ps c)

  abbrev later : ℕ → RowSet
  later r q = f q && is_later_sibling ps q r

  next-parents : (r : ℕ) → 0 < r → (a : ℕ) → parents_before ps f (r + 1) a ≡ (parents_before ps f r a || (f r && eqb a (get_or ps r 0)))
  unfolding parents_before any_below
  next-parents r p a =
      ap (λ (n : ℕ). any_below n (hits a)) (add-one r)
      ∙ ap (λ (b : Bool). any_below r (hits a) || (f r && b)) (ap (is_in a) (later-parent ps r p) ∙ or-false (eqb a (get_or ps r 0)))

  -- no child of a row is before the row
  own-parents : (n r : ℕ) → n ≤ r + 1 → n ≤ length ps → parents_before ps f n r ≡ false
  unfolding parents_before
  own-parents n r b l =
      any-never n (hits r) (λ c d t.
      let u : r < c = (parent-of ps before r c (omega arith) (and_cases (f c) (is_in r (parent_of ps c)) t).1).2 in
      omega arith)

  -- the root is no sibling of a row
  following-root : reached_by (λ q r. is_later_sibling ps q r) (length ps) f 0 ≡ false
  following-root =
      any-never (length ps) (later 0) (λ q l t.
      let s : q < 0 = (test-sibling ps q 0 (and_cases (f q) (is_later_sibling ps q 0) t).1).in_order in
      omega arith)

  following-later : (r : ℕ) → 0 < r → r < length ps → reached_by (λ q r. is_later_sibling ps q r) (length ps) f r ≡ parents_before ps f r (get_or ps r 0)
  unfolding parents_before
  following-later r p l = same_test (any_below (length ps) (later r)) (any_below r (hits (get_or ps r 0))) to from
    where
      to : T (any_below (length ps) (later r)) → T (any_below r (hits (get_or ps r 0)))
      to t =
          let q = below-any (length ps) (later r) t in
          let c = and_cases (f q.0) (is_later_sibling ps q.0 r) q.2 in
          let s = test-sibling ps q.0 r c.1 in
          any_below_lem r (hits (get_or ps r 0)) q.0 s.in_order (and_intro (f q.0) _ c.0 (child-of-own ps q.0 (get_or ps r 0) s.later (sym s.one_parent)))

      from : T (any_below r (hits (get_or ps r 0))) → T (any_below (length ps) (later r))
      from t =
          let q = below-any r (hits (get_or ps r 0)) t in
          let b : q.0 < r = q.1 in
          let i : q.0 < length ps = omega arith in
          let c = and_cases (f q.0) (is_in (get_or ps r 0) (parent_of ps q.0)) q.2 in
          let s = parent-of ps before (get_or ps r 0) q.0 i c.1 in
          any_below_lem (length ps) (later r) q.0 i
          (and_intro (f q.0) _ c.0 (sibling-test ps q.0 r (record { later = s.0; one_parent = sym s.1; in_order = b })))

following-at : (ps m : List ℕ) (r : ℕ) → r < length ps → get_or (following_sibling_marks ps m) r 0 ≡ mark (reached_by (λ q r. is_later_sibling ps q r) (length ps) (is_marked m) r)
unfolding following_sibling_marks
following-at ps m r l = marks-at (length ps) (reached_by (λ q r. is_later_sibling ps q r) (length ps) (is_marked m)) r l

following-length : (ps m : List ℕ) → length (following_sibling_marks ps m) ≡ length ps
unfolding following_sibling_marks
following-length ps m = marks-length (length ps) (reached_by (λ q r. is_later_sibling ps q r) (length ps) (is_marked m))

-- the root's mark does not count: it has no sibling
root-left-out : (ps m : List ℕ) (x : ℕ) → following_sibling_marks ps (set m 0 x) ≡ following_sibling_marks ps m
unfolding following_sibling_marks
root-left-out ps m x =
    marks-cong (length ps) (reached_by (λ q r. is_later_sibling ps q r) (length ps) (is_marked (set m 0 x))) (reached_by (λ q r. is_later_sibling ps q r) (length ps) (is_marked m))
    (λ r l. any-cong (length ps) (λ q. is_marked (set m 0 x) q && is_later_sibling ps q r) (λ q. is_marked m q && is_later_sibling ps q r) (row r))
  where
    row : (r q : ℕ) → q < length ps → (is_marked (set m 0 x) q && is_later_sibling ps q r) ≡ (is_marked m q && is_later_sibling ps q r)
    row r q l =
        same_test _ _ (λ t. let c = and_cases (is_marked (set m 0 x) q) (is_later_sibling ps q r) t in and_intro (is_marked m q) _ (subst T (same c.1) c.0) c.1)
        (λ t. let c = and_cases (is_marked m q) (is_later_sibling ps q r) t in and_intro (is_marked (set m 0 x) q) _ (subst T (sym (same c.1)) c.0) c.1)
      where
        same : T (is_later_sibling ps q r) → is_marked (set m 0 x) q ≡ is_marked m q
        same t = ap (λ (y : ℕ). eqb y 1) (get_or-set_other m 0 q x 0 (λ e. omega (arith, (test-sibling ps q r t).later)))

-- ---- the pass with r rows behind it
pub record Following (ps m was : List ℕ) (r : ℕ) (from out : List ℕ) : Type 0 where
  pub pass : AxisPass ps m was
  pub some : 0 < r
  pub size : length from ≡ length ps
  pub child-passed : (k : ℕ) → k < r → get_or from k 0 ≡ mark (parents_before ps (is_marked m) r k)
  pub ahead : (k : ℕ) → r ≤ k → get_or from k 0 ≡ get_or m k 0
  pub rows : Forward (following_sibling_marks ps m) was r out

module _ (ps m was : List ℕ) (h : AxisPass ps m was) where
  -- the root's cell holds no mark of its own
  cleared-marks : OnlyMarks (set m 0 0)
  cleared-marks = marks-by-rows (length (set m 0 0)) (is_marked (set m 0 0)) (set m 0 0) refl (λ k l. row k (omega (arith, length-set m 0 0)))
    where
      row : (k : ℕ) → k < length m → get_or (set m 0 0) k 0 ≡ mark (is_marked (set m 0 0) k)
      row zero l = let e : get_or (set m 0 0) 0 0 ≡ 0 = get_or-set_same m 0 0 0 l in rw e refl
      row (suc k) l =
          let e : get_or (set m 0 0) (suc k) 0 ≡ get_or m (suc k) 0 = get_or-set_other m 0 (suc k) 0 0 (λ z. omega arith) in
          rw e (mark-at m h.marked (suc k) l)

  pub following-begun : Following ps (set m 0 0) (set was 0 0) 1 (set m 0 0) (set was 0 0)
  following-begun =
      record {
        pass = record {
          before = h.before;
          filled = h.filled;
          marked = cleared-marks;
          size = length-set m 0 0 ∙ h.size;
          room = length-set was 0 0 ∙ h.room;
        };
        some = omega arith;
        size = length-set m 0 0 ∙ h.size;
        child-passed = λ k l.
            (let z : k ≡ 0 = omega arith in
            rw z (get_or-set_same m 0 0 0 (omega (arith, h.filled, h.size)) ∙ ap mark (sym (own-parents ps h.before (is_marked (set m 0 0)) 1 0 (omega arith) (omega (arith, h.filled))))));
        ahead = λ k l. refl;
        rows = record {
          within = omega (arith, length-set was 0 0, h.filled, h.room);
          size = refl;
          rows = record {
            done = λ k l.
                (let z : k ≡ 0 = omega arith in
                rw z
                (get_or-set_same was 0 0 0 (omega (arith, h.filled, h.room))
                ∙ sym (following-at ps (set m 0 0) 0 h.filled ∙ ap mark (following-root ps h.before (is_marked (set m 0 0))))));
            kept = λ k l. refl;
          };
        };
      }

  pub following-all : (r : ℕ) (from out : List ℕ) → Following ps (set m 0 0) (set was 0 0) r from out → length out ≤ r → out ≡ following_sibling_marks ps m
  following-all r from out w l =
      forward-all (following_sibling_marks ps (set m 0 0)) (set was 0 0) r out (w.pass.room ∙ sym (following-length ps (set m 0 0))) w.rows l ∙ root-left-out ps m 0

-- ---- a turn at row r
module _ (ps m was : List ℕ) (r : ℕ) (from out : List ℕ) (w : Following ps m was r from out) (l : r < length out) where
  row_inside : r < length ps
  row_inside = omega (arith, w.rows.size, w.pass.room)

  pub parent-before : get_or ps r 0 < r
  parent-before = w.pass.before r w.some row_inside

  abbrev at : ℕ
  at = get_or ps r 0

  abbrev met : ℕ
  met = bit_or (get_or from at 0) (get_or from r 0)

  pub parent-inside : at < length from
  parent-inside = omega (arith, w.size, parent-before, row_inside)

  pub own-inside : r < length (set from at met)
  own-inside = omega (arith, length-set from at met, w.size, row_inside)

  met-is : met ≡ mark (parents_before ps (is_marked m) r at || is_marked m r)
  met-is =
      ap (λ (x : ℕ). bit_or x (get_or from r 0)) (w.child-passed at parent-before)
      ∙ ap (bit_or (mark (parents_before ps (is_marked m) r at))) (w.ahead r (omega arith) ∙ mark-at m w.pass.marked r (omega (arith, w.pass.size, row_inside)))
      ∙ or-marks (parents_before ps (is_marked m) r at) (is_marked m r)

  pub following-next : Following ps m was (r + 1) (set (set from at met) r 0) (set out r (get_or from at 0))
  following-next =
      record {
        pass = w.pass;
        some = omega arith;
        size = length-set (set from at met) r 0 ∙ length-set from at met ∙ w.size;
        child-passed = λ k b. here k b (eqb k r) refl;
        ahead = λ k b.
            get_or-set_other (set from at met) r k 0 0 (λ e. omega arith) ∙ get_or-set_other from at k met 0 (λ e. omega (arith, parent-before)) ∙ w.ahead k (omega arith);
        rows = forward-next (following_sibling_marks ps m) was r out (get_or from at 0) w.rows l
            (w.child-passed at parent-before ∙ sym (following-at ps m r row_inside ∙ ap mark (following-later ps w.pass.before (is_marked m) r w.some row_inside)));
      }
    where
      before-r : (k : ℕ) → k < r → (b : Bool) → eqb k at ≡ b → get_or (set from at met) k 0 ≡ mark (parents_before ps (is_marked m) (r + 1) k)
      before-r k b true q =
          let z : k ≡ at = eqb-true k at q in
          ap (λ (i : ℕ). get_or (set from at met) i 0) z ∙ get_or-set_same from at met 0 parent-inside ∙ met-is
          ∙ ap mark (ap (λ (i : ℕ). parents_before ps (is_marked m) r i || is_marked m r) (sym z)
          ∙ ap (λ (v : Bool). parents_before ps (is_marked m) r k || v) (sym (and-true (is_marked m r)) ∙ ap (λ (v : Bool). is_marked m r && v) (sym q))
          ∙ sym (next-parents ps w.pass.before (is_marked m) r w.some k))
      before-r k b false q =
          get_or-set_other from at k met 0 (eqb-false k at q) ∙ w.child-passed k b
          ∙ ap mark (sym (or-false (parents_before ps (is_marked m) r k))
          ∙ ap (λ (v : Bool). parents_before ps (is_marked m) r k || v) (sym (and-false (is_marked m r)) ∙ ap (λ (v : Bool). is_marked m r && v) (sym q))
          ∙ sym (next-parents ps w.pass.before (is_marked m) r w.some k))

      here : (k : ℕ) → k < r + 1 → (b : Bool) → eqb k r ≡ b → get_or (set (set from at met) r 0) k 0 ≡ mark (parents_before ps (is_marked m) (r + 1) k)
      here k b true q =
          let z : k ≡ r = eqb-true k r q in
          rw z (get_or-set_same (set from at met) r 0 0 own-inside
          ∙ ap mark (sym (own-parents ps w.pass.before (is_marked m) (r + 1) r (omega arith) (omega (arith, row_inside)))))
      here k b false q =
          let d : k ≡ r → ⊥ = eqb-false k r q in
          get_or-set_other (set from at met) r k 0 0 d ∙ before-r k (omega arith) (eqb k at) refl
