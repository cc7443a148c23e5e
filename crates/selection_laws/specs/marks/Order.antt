-- Document order by the column of parents: a row follows another exactly if it is at or below a later sibling of a row at or above the other.
use Rattle.std.specs.Prelude.{Bool, ◌&&◌, List, ◌∷◌, ◌≡◌, T, eqb, ltb, get_or}
use Rattle.std.proofs.Math.Bool.{not}
use Rattle.std.proofs.Math.Logic.{⊎_elim}
use Rattle.std.proofs.Math.Path.{refl}
use Rattle.std.proofs.Common.{sym, subst, eq-or-lt_of_le, arith, lt→ltb}
use Prim.Native.Nat.{ℕ, zero, suc, ◌+◌, ◌-◌, ◌<◌, ◌≤◌}
use Rattle.std.proofs.Math.Dec.{eqb→eq, eqb_refl, ltb→lt}
use Rattle.std.proofs.Math.ListN.{length}
use Rattle.cells.specs.row_sets.Ancestors.{ancestors_of, is_in, root-ancestors, later-ancestors, by-parents}
use Rattle.cells.specs.row_sets.Columns.{marks, is_marked, marks-marked, marks-cong}
use Rattle.path_spec.specs.Paths.{descendant_or_self, ancestor_or_self, WrittenAxis, along, following, following_sibling, preceding, preceding_sibling}
use Rattle.selection_laws.specs.marks.Parents.{row_on_axis, reached_by, image, image_marks}
use Rattle.selection_laws.specs.marks.Selection.{written_marks}
use Rattle.selection_laws.specs.marks.Siblings.{is_later_sibling, following_sibling_marks, preceding_sibling_marks}
use Rattle.table_laws.specs.Parents.{ParentsBefore, AtOrAbove, at_row, above-row, ParentsOpen}
use Rattle.text_laws.specs.Searches.{below-any, any_below_lem, below-or-past}
use Rattle.text_laws.specs.Tests.{or_left, or_right, or_cases, and_intro, and_cases, not-intro, not-elim, decided, same_test}

-- ---- definitions
-- row r comes after row q, and neither is above the other
unfoldable pub row_follows : List ℕ → ℕ → ℕ → Bool
row_follows ps q r = ltb q r && (not (is_in q (ancestors_of ps r)) && not (is_in r (ancestors_of ps q)))

-- row r lies on the written axis from row q
abbrev pub row_on_written : WrittenAxis → List ℕ → ℕ → ℕ → Bool
row_on_written (along a) ps q r = row_on_axis a ps q r
row_on_written following ps q r = row_follows ps q r
row_on_written following_sibling ps q r = is_later_sibling ps q r
row_on_written preceding ps q r = row_follows ps r q
row_on_written preceding_sibling ps q r = is_later_sibling ps r q

-- ---- what the test of siblings says
pub record LaterSibling (ps : List ℕ) (a b : ℕ) : Type 0 where
  pub later : 0 < a
  pub one_parent : get_or ps a 0 ≡ get_or ps b 0
  pub in_order : a < b

pub test-sibling : (ps : List ℕ) (a b : ℕ) → T (is_later_sibling ps a b) → LaterSibling ps a b
unfolding is_later_sibling
test-sibling ps a b t =
    let c = and_cases (not (eqb a 0)) (not (eqb b 0) && (eqb (get_or ps a 0) (get_or ps b 0) && ltb a b)) t in
    let d = and_cases (eqb (get_or ps a 0) (get_or ps b 0)) (ltb a b) (and_cases (not (eqb b 0)) (eqb (get_or ps a 0) (get_or ps b 0) && ltb a b) c.1).1 in
    let some : a ≡ 0 → ⊥ = λ e. not-elim (eqb a 0) c.0 (subst (λ (k : ℕ). T (eqb k 0)) (sym e) tt) in
    record { later = omega arith; one_parent = eqb→eq (get_or ps a 0) (get_or ps b 0) d.0; in_order = ltb→lt a b d.1 }

pub sibling-test : (ps : List ℕ) (a b : ℕ) → LaterSibling ps a b → T (is_later_sibling ps a b)
unfolding is_later_sibling
sibling-test ps a b s =
    and_intro (not (eqb a 0)) (not (eqb b 0) && (eqb (get_or ps a 0) (get_or ps b 0) && ltb a b)) (some a s.later)
    (and_intro (not (eqb b 0)) (eqb (get_or ps a 0) (get_or ps b 0) && ltb a b) (some b (omega (arith, s.in_order)))
    (and_intro (eqb (get_or ps a 0) (get_or ps b 0)) (ltb a b) (subst (λ (k : ℕ). T (eqb (get_or ps a 0) k)) s.one_parent (eqb_refl (get_or ps a 0)))
    (lt→ltb a b s.in_order)))
  where
    some : (k : ℕ) → 0 < k → T (not (eqb k 0))
    some k l = not-intro (eqb k 0) (λ t. omega (arith, eqb→eq k 0 t))

-- ---- rows at or above a row
above-trans : {ps : List ℕ} {a b c : ℕ} → AtOrAbove ps a b → AtOrAbove ps b c → AtOrAbove ps a c
above-trans h at_row = h
above-trans h (above-row l k) = above-row l (above-trans h k)

-- a row above another is at or above its parent
above_parent : {ps : List ℕ} {a r : ℕ} → AtOrAbove ps a r → a < r → AtOrAbove ps a (get_or ps r 0)
above_parent at_row l = absurd (omega arith)
above_parent (above-row p h) l = h

module _ (ps : List ℕ) (before : ParentsBefore ps) where
  above-first : {a r : ℕ} → r < length ps → AtOrAbove ps a r → a ≤ r
  above-first l at_row = omega arith
  above-first {a} {r} l (above-row p h) =
      let b : get_or ps r 0 < r = before r p l in
      omega (arith, above-first (omega arith) h)

  at-or-above-test : {a r : ℕ} → r < length ps → AtOrAbove ps a r → T (is_in a (r ∷ ancestors_of ps r))
  at-or-above-test {a} l at_row = or_left (eqb a a) (is_in a (ancestors_of ps a)) (eqb_refl a)
  at-or-above-test {a} {r} l (above-row p h) =
      let b : get_or ps r 0 < r = before r p l in
      or_right (eqb a r) (is_in a (ancestors_of ps r)) (subst (λ (k : List ℕ). T (is_in a k)) (sym (later-ancestors ps before r p l)) (at-or-above-test (omega arith) h))

  test-at-or-above : (a r : ℕ) → r < length ps → T (is_in a (r ∷ ancestors_of ps r)) → AtOrAbove ps a r
  test-at-or-above a = by-parents ps before (λ r. T (is_in a (r ∷ ancestors_of ps r)) → AtOrAbove ps a r) root later
    where
      here : (r : ℕ) → T (eqb a r) → AtOrAbove ps a r
      here r t = subst (AtOrAbove ps a) (eqb→eq a r t) at_row

      root : T (is_in a (0 ∷ ancestors_of ps 0)) → AtOrAbove ps a 0
      root t = ⊎_elim (here 0) (λ i. absurd (subst (λ (k : List ℕ). T (is_in a k)) (root-ancestors ps) i)) (or_cases (eqb a 0) (is_in a (ancestors_of ps 0)) t)

      later : (r : ℕ) → 0 < r → r < length ps → (T (is_in a (get_or ps r 0 ∷ ancestors_of ps (get_or ps r 0))) → AtOrAbove ps a (get_or ps r 0))
          → T (is_in a (r ∷ ancestors_of ps r)) → AtOrAbove ps a r
      later r p l h t =
          ⊎_elim (here r) (λ i. above-row p (h (subst (λ (k : List ℕ). T (is_in a k)) (later-ancestors ps before r p l) i)))
          (or_cases (eqb a r) (is_in a (ancestors_of ps r)) t)

  -- what is above a row does not come after it
  pub row-above : (a r : ℕ) → r < length ps → T (is_in a (ancestors_of ps r)) → a ≤ r
  row-above a r l i = above-first l (test-at-or-above a r l (or_right (eqb a r) (is_in a (ancestors_of ps r)) i))

  -- what the test of following says: the first row comes before the second and is not above it
  test-row-follows : (q r : ℕ) → r < length ps → T (row_follows ps q r) → (q < r) × (AtOrAbove ps q r → ⊥)
  unfolding row_follows
  test-row-follows q r l t =
      let c = and_cases (ltb q r) (not (is_in q (ancestors_of ps r)) && not (is_in r (ancestors_of ps q))) t in
      let d = and_cases (not (is_in q (ancestors_of ps r))) (not (is_in r (ancestors_of ps q))) c.1 in
      let b : q < r = ltb→lt q r c.0 in
      let apart : AtOrAbove ps q r → ⊥ = λ h.
      ⊎_elim (λ e. omega (arith, b, eqb→eq q r e)) (not-elim (is_in q (ancestors_of ps r)) d.0) (or_cases (eqb q r) (is_in q (ancestors_of ps r)) (at-or-above-test l h)) in
      (b, apart)

  row-follows-test : (q r : ℕ) → q < r → r < length ps → (AtOrAbove ps q r → ⊥) → T (row_follows ps q r)
  unfolding row_follows
  row-follows-test q r b l apart =
      and_intro (ltb q r) (not (is_in q (ancestors_of ps r)) && not (is_in r (ancestors_of ps q))) (lt→ltb q r b)
      (and_intro (not (is_in q (ancestors_of ps r))) (not (is_in r (ancestors_of ps q)))
      (not-intro (is_in q (ancestors_of ps r)) (λ i. apart (test-at-or-above q r l (or_right (eqb q r) (is_in q (ancestors_of ps r)) i))))
      (not-intro (is_in r (ancestors_of ps q)) (λ i. omega (arith, b, row-above r q (omega arith) i))))

  -- of the rows above q the child of p
  child-above : {p q : ℕ} → p < q → q < length ps → AtOrAbove ps p q → (a : ℕ) × (0 < a) × (get_or ps a 0 ≡ p) × AtOrAbove ps a q
  child-above b l at_row = absurd (omega arith)
  child-above {p} {q} b l (above-row z h) =
      let c : get_or ps q 0 < q = before q z l in
      let k : get_or ps q 0 < length ps = omega arith in
      ⊎_elim (λ e. (q, z, sym e, at_row))
      (λ d.
      let s = child-above d k h in
      (s.0, s.1, s.2, above-row z s.3)) (eq-or-lt_of_le (above-first k h))

  -- a row is not above its later sibling
  sibling-apart : {a b : ℕ} → b < length ps → LaterSibling ps a b → AtOrAbove ps a b → ⊥
  sibling-apart {a} {b} l s h =
      let z : 0 < a = s.later in
      let d : a < b = s.in_order in
      let c : get_or ps a 0 < a = before a z (omega arith) in
      let u : AtOrAbove ps a (get_or ps a 0) = subst (AtOrAbove ps a) (sym s.one_parent) (above_parent h d) in
      omega (arith, c, above-first (omega arith) u)

  -- ---- in a table's order
  module _ (opens : ParentsOpen ps) where
    -- what is at or above a row is at or above all rows between them
    between-rows : (b a d : ℕ) → b ≤ a → a + d < length ps → AtOrAbove ps b (a + d) → AtOrAbove ps b a
    between-rows b a zero k l h = subst (AtOrAbove ps b) (omega arith) h
    between-rows b a (suc d) k l h =
        let e : a + suc d ≡ suc (a + d) = omega arith in
        let u : AtOrAbove ps b (get_or ps (suc (a + d)) 0) = above_parent (subst (AtOrAbove ps b) e h) (omega arith) in
        between-rows b a d k (omega arith) (above-trans u (opens (a + d) (omega arith)))

    between : (b a y : ℕ) → b ≤ a → a ≤ y → y < length ps → AtOrAbove ps b y → AtOrAbove ps b a
    between b a y k c l h =
        let e : y ≡ a + (y - a) = omega arith in
        between-rows b a (y - a) k (omega arith) (subst (AtOrAbove ps b) e h)

    -- rows at or below siblings stand in the order of the siblings, neither above the other
    siblings-follow : (q a b r : ℕ) → q < length ps → r < length ps → AtOrAbove ps a q → LaterSibling ps a b → AtOrAbove ps b r
        → (q < r) × (AtOrAbove ps q r → ⊥)
    siblings-follow q a b r l k u s v =
        let c : b ≤ r = above-first k v in
        let d : a < b = s.in_order in
        let none : (y : ℕ) → b ≤ y → y < length ps → AtOrAbove ps a y → ⊥ = λ y f g h. sibling-apart (omega arith) s (between a b y (omega arith) f g h) in
        (⊎_elim (λ f. f) (λ f. absurd (none q (omega arith) l u)) (below-or-past q r), λ h. none r c k (above-trans u h))

    -- and rows that stand so are at or below siblings
    record UnderSiblings (q r : ℕ) : Type 0 where
      pub left : ℕ
      pub right : ℕ
      pub siblings : LaterSibling ps left right
      pub above-left : AtOrAbove ps left q
      pub above-right : AtOrAbove ps right r

    follow-siblings : (q r : ℕ) → r < length ps → q < r → (AtOrAbove ps q r → ⊥) → UnderSiblings q r
    follow-siblings q = by-parents ps before (λ r. q < r → (AtOrAbove ps q r → ⊥) → UnderSiblings q r) (λ b n. absurd (omega arith)) later
      where
        later : (r : ℕ) → 0 < r → r < length ps → (q < get_or ps r 0 → (AtOrAbove ps q (get_or ps r 0) → ⊥) → UnderSiblings q (get_or ps r 0))
            → q < r → (AtOrAbove ps q r → ⊥) → UnderSiblings q r
        later r z l h b n = ⊎_elim met higher (decided (is_in p (q ∷ ancestors_of ps q)))
          where
            p : ℕ
            p = get_or ps r 0

            inside : q < length ps
            inside = omega arith

            -- the parent of r is above q
            met : T (is_in p (q ∷ ancestors_of ps q)) → UnderSiblings q r
            met t =
                let u : AtOrAbove ps p q = test-at-or-above p q inside t in
                let apart : p ≡ q → ⊥ = λ e. n (above-row z (subst (AtOrAbove ps q) (sym e) at_row)) in
                let d : p ≤ q = above-first inside u in
                let c = child-above (omega arith) inside u in
                let k : c.0 ≤ q = above-first inside c.3 in
                record { left = c.0; right = r; siblings = record { later = c.1; one_parent = c.2; in_order = omega arith }; above-left = c.3; above-right = at_row }

            -- else the parent follows q, too
            higher : (T (is_in p (q ∷ ancestors_of ps q)) → ⊥) → UnderSiblings q r
            higher none =
                let e : r ≡ suc (r - 1) = omega arith in
                let o : AtOrAbove ps p (r - 1) = subst (λ (k : ℕ). AtOrAbove ps (get_or ps k 0) (r - 1)) (sym e) (opens (r - 1) (omega arith)) in
                let past : p ≤ q → ⊥ = λ c. none (at-or-above-test inside (between p q (r - 1) c (omega arith) (omega arith) o)) in
                let s = h (omega arith) (λ u. n (above-row z u)) in
                record { left = s.left; right = s.right; siblings = s.siblings; above-left = s.above-left; above-right = above-row z s.above-right }

-- ---- passes
-- a row that is reached, and a row that it is reached from
reached-from : (leads : ℕ → ℕ → Bool) (n : ℕ) (m : List ℕ) (r : ℕ) → T (reached_by leads n (is_marked m) r) → (q : ℕ) × (q < n) × T (is_marked m q) × T (leads q r)
reached-from leads n m r t =
    let q = below-any n (λ q. is_marked m q && leads q r) t in
    let c = and_cases (is_marked m q.0) (leads q.0 r) q.2 in
    (q.0, q.1, c.0, c.1)

from-reached : (leads : ℕ → ℕ → Bool) (n : ℕ) (m : List ℕ) (q r : ℕ) → q < n → T (is_marked m q) → T (leads q r) → T (reached_by leads n (is_marked m) r)
from-reached leads n m q r l t u = any_below_lem n (λ k. is_marked m k && leads k r) q l (and_intro (is_marked m q) (leads q r) t u)

module _ (ps : List ℕ) (before : ParentsBefore ps) (m : List ℕ) where
  -- up, to siblings, down: three passes lead as one relation does
  module _ (aside far : ℕ → ℕ → Bool)
      (joins : (q a b r : ℕ) → q < length ps → r < length ps → AtOrAbove ps a q → T (aside a b) → AtOrAbove ps b r → T (far q r))
      (parts : (q r : ℕ) → q < length ps → r < length ps → T (far q r) → (a b : ℕ) × AtOrAbove ps a q × T (aside a b) × AtOrAbove ps b r) where
    three-passes : image_marks descendant_or_self ps (marks (length ps) (reached_by aside (length ps) (is_marked (image_marks ancestor_or_self ps m))))
        ≡ marks (length ps) (reached_by far (length ps) (is_marked m))
    unfolding image_marks image row_on_axis
    three-passes =
        marks-cong n (reached_by down n (is_marked beside)) (reached_by far n (is_marked m)) (λ r l.
        same_test (reached_by down n (is_marked beside) r) (reached_by far n (is_marked m) r) (to r l) (from r l))
      where
        n : ℕ
        n = length ps

        up : ℕ → ℕ → Bool
        up q a = is_in a (q ∷ ancestors_of ps q)

        down : ℕ → ℕ → Bool
        down b r = is_in b (r ∷ ancestors_of ps r)

        over : List ℕ
        over = marks n (reached_by up n (is_marked m))

        beside : List ℕ
        beside = marks n (reached_by aside n (is_marked over))

        to : (r : ℕ) → r < n → T (reached_by down n (is_marked beside) r) → T (reached_by far n (is_marked m) r)
        to r l t =
            let b = reached-from down n beside r t in
            let a = reached-from aside n over b.0 (subst T (marks-marked n (reached_by aside n (is_marked over)) b.0 b.1) b.2) in
            let q = reached-from up n m a.0 (subst T (marks-marked n (reached_by up n (is_marked m)) a.0 a.1) a.2) in
            from-reached far n m q.0 r q.1 q.2
            (joins q.0 a.0 b.0 r q.1 l (test-at-or-above ps before a.0 q.0 q.1 q.3) a.3 (test-at-or-above ps before b.0 r l b.3))

        from : (r : ℕ) → r < n → T (reached_by far n (is_marked m) r) → T (reached_by down n (is_marked beside) r)
        from r l t =
            let q = reached-from far n m r t in
            let s = parts q.0 r q.1 l q.3 in
            let i : s.0 < n = omega (arith, q.1, above-first ps before q.1 s.2) in
            let j : s.1 < n = omega (arith, above-first ps before l s.4) in
            let u = from-reached up n m q.0 s.0 q.1 q.2 (at-or-above-test ps before q.1 s.2) in
            let v = from-reached aside n over s.0 s.1 i (subst T (sym (marks-marked n (reached_by up n (is_marked m)) s.0 i)) u) s.3 in
            from-reached down n beside s.1 r j (subst T (sym (marks-marked n (reached_by aside n (is_marked over)) s.1 j)) v) (at-or-above-test ps before l s.4)

  module _ (opens : ParentsOpen ps) where
    joins-following : (q a b r : ℕ) → q < length ps → r < length ps → AtOrAbove ps a q → T (is_later_sibling ps a b) → AtOrAbove ps b r → T (row_follows ps q r)
    joins-following q a b r l k u t v =
        let s = siblings-follow ps before opens q a b r l k u (test-sibling ps a b t) v in
        row-follows-test ps before q r s.0 k s.1

    parts-following : (q r : ℕ) → q < length ps → r < length ps → T (row_follows ps q r) → (a b : ℕ) × AtOrAbove ps a q × T (is_later_sibling ps a b) × AtOrAbove ps b r
    parts-following q r l k t =
        let f = test-row-follows ps before q r k t in
        let s = follow-siblings ps before opens q r k f.0 f.1 in
        (s.left, s.right, s.above-left, sibling-test ps s.left s.right s.siblings, s.above-right)

    -- the passes of a written axis mark the rows that lie on it from a marked row
    pub written-rows : (a : WrittenAxis) → written_marks a ps m ≡ marks (length ps) (reached_by (row_on_written a ps) (length ps) (is_marked m))
    unfolding image_marks image following_sibling_marks preceding_sibling_marks
    written-rows (along a) = refl
    written-rows following = three-passes (λ q r. is_later_sibling ps q r) (λ q r. row_follows ps q r) joins-following parts-following
    written-rows following_sibling = refl
    written-rows preceding =
        three-passes (λ q r. is_later_sibling ps r q) (λ q r. row_follows ps r q) (λ q a b r l k u t v. joins-following r b a q k l v t u)
        (λ q r l k t. let s = parts-following r q k l t in (s.1, s.0, s.4, s.3, s.2))
    written-rows preceding_sibling = refl
