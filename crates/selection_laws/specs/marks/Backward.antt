-- Passes from the last row to the first, each row marking its parent, for the axes that lead up.
use Rattle.std.specs.Prelude.{Bool, true, false, ◌&&◌, ◌||◌, ◌⊎◌, ◌≡◌, refl, T, eqb, get_or, set}
use Rattle.std.proofs.Math.Bool.{or-false, or_assoc, and-true, and-false}
use mathlib.Core.List.Memᴰ.{cases_cons}
use mathlib.Core.List.Memᴰ.{head as here}
use mathlib.Core.List.Memᴰ.{tail as there}
use mathlib.Core.List.{List, ◌∷◌, Memᴰ as In}
use Rattle.std.proofs.Common.{inl, inr, ⊎_elim, subst, ◌∙◌, eq-or-lt_of_le, arith, eqb→eq, length-set, get_or-set_same, get_or-set_other}
use Rattle.std.proofs.Math.Path.{sym, ap}
use Prim.Native.Nat.{ℕ, suc, ◌<◌, ◌≤◌}
use Rattle.std.specs.Int.Bits.{bit_or}
use Rattle.std.proofs.Math.Dec.{leb, eqb_refl, leb→le}
use Rattle.std.proofs.Math.ListN.{length}
use Rattle.cells.specs.row_sets.Ancestors.{parent_of, ancestors_of, is_in, root-parent, later-parent, root-ancestors, later-ancestors, by-parents, is-in, in_is}
use Rattle.cells.specs.row_sets.Columns.{RowSet, mark, marks, marks-length, marks-at, marks-by-rows}
use Rattle.cells.specs.row_sets.Loops.{or-marks}
use Rattle.path_spec.specs.Paths.{parent, ancestor, ancestor_or_self}
use Rattle.selection_laws.specs.marks.Parents.{row_on_axis, image, image-cong}
use Rattle.table_laws.specs.Parents.{ParentsBefore}
use Rattle.text_laws.specs.Searches.{below-any, any_below_lem, any-never, any-from, any-from-all}
use Rattle.text_laws.specs.Tests.{or_left, or_right, or_cases, and_intro, and_cases, same_test}
use Rattle.text_spec.specs.Lists.{any_below}

-- ---- the rows that are marked at first, and the parents of those rows of a set that are not before r
unfoldable pub propagated : List ℕ → RowSet → RowSet → ℕ → RowSet
propagated ps was f r a = was a || any_below (length ps) (λ c. leb r c && (f c && is_in a (parent_of ps c)))

module _ (ps : List ℕ) (before : ParentsBefore ps) where
  -- the parent of a row stands before it, and the root has none
  pub parent-of : (a c : ℕ) → c < length ps → T (is_in a (parent_of ps c)) → (0 < c) × (a ≡ get_or ps c 0) × (a < c)
  parent-of a c l t = ⊎_elim root later (eq-or-lt_of_le {n = 0} (omega arith))
    where
      root : 0 ≡ c → (0 < c) × (a ≡ get_or ps c 0) × (a < c)
      root e = absurd (subst (λ (k : List ℕ). T (is_in a k)) (ap (parent_of ps) (sym e) ∙ root-parent ps) t)

      later : 0 < c → (0 < c) × (a ≡ get_or ps c 0) × (a < c)
      later p =
          let b : get_or ps c 0 < c = before c p l in
          let e : a ≡ get_or ps c 0 = eqb→eq a (get_or ps c 0) (subst T (ap (is_in a) (later-parent ps c p) ∙ or-false (eqb a (get_or ps c 0))) t) in
          (p, e, omega arith)

  -- ---- one law for the passes up: f is the set of the rows that mark their parents
  module _ (was f : RowSet) where
    abbrev hits : ℕ → RowSet
    hits a c = f c && is_in a (parent_of ps c)

    pub propagated-none : (a : ℕ) → propagated ps was f (length ps) a ≡ was a
    unfolding propagated
    propagated-none a =
        ap (λ (b : Bool). was a || b)
        (any-never (length ps) (λ c. leb (length ps) c && hits a c) (λ c l t.
        let b : length ps ≤ c = leb→le (length ps) c (and_cases (leb (length ps) c) (hits a c) t).0 in
        omega arith)) ∙ or-false (was a)

    pub propagated-row : (r : ℕ) → 0 < r → r < length ps → (a : ℕ) → propagated ps was f r a ≡ (propagated ps was f (suc r) a || (f r && eqb a (get_or ps r 0)))
    unfolding propagated
    propagated-row r p l a =
        ap (λ (b : Bool). was a || b) (any-from (length ps) (hits a) r l)
        ∙ sym (or_assoc (was a) (any_below (length ps) (λ c. leb (suc r) c && hits a c)) (hits a r))
        ∙ ap (λ (b : Bool). propagated ps was f (suc r) a || (f r && b)) (ap (is_in a) (later-parent ps r p) ∙ or-false (eqb a (get_or ps r 0)))

    pub propagated-all : (r : ℕ) → r ≤ 1 → (a : ℕ) → propagated ps was f r a ≡ (was a || image parent ps f a)
    unfolding propagated image row_on_axis
    propagated-all r h a =
        ap (λ (b : Bool). was a || b) (any-from-all (length ps) (hits a) r (λ c l t.
        let b : 0 < c = (parent-of a c l (and_cases (f c) (is_in a (parent_of ps c)) t).1).0 in
        omega arith))

    -- a row's own mark is right once the rows after it are passed
    pub propagated-own : (r : ℕ) → propagated ps was f (suc r) r ≡ (was r || image parent ps f r)
    unfolding propagated image row_on_axis
    propagated-own r =
        ap (λ (b : Bool). was r || b)
        (any-from-all (length ps) (hits r) (suc r) (λ c l t. (parent-of r c l (and_cases (f c) (is_in r (parent_of ps c)) t).1).2))

    -- a turn of the pass
    pub propagated-next : (r : ℕ) → 0 < r → r < length ps → (out : List ℕ) (x : ℕ) → out ≡ marks (length ps) (propagated ps was f (suc r)) → x ≡ mark (f r)
        → set out (get_or ps r 0) (bit_or (get_or out (get_or ps r 0) 0) x) ≡ marks (length ps) (propagated ps was f r)
    propagated-next r p l out x e d = marks-by-rows (length ps) (propagated ps was f r) (set out at y) (length-set out at y ∙ long) row
      where
        at : ℕ
        at = get_or ps r 0

        y : ℕ
        y = bit_or (get_or out at 0) x

        long : length out ≡ length ps
        long = ap length e ∙ marks-length (length ps) (propagated ps was f (suc r))

        had : (k : ℕ) → k < length ps → get_or out k 0 ≡ mark (propagated ps was f (suc r) k)
        had k b = ap (λ (m : List ℕ). get_or m k 0) e ∙ marks-at (length ps) (propagated ps was f (suc r)) k b

        row : (k : ℕ) → k < length ps → get_or (set out at y) k 0 ≡ mark (propagated ps was f r k)
        row k b = pick (eqb k at) refl
          where
            pick : (t : Bool) → eqb k at ≡ t → get_or (set out at y) k 0 ≡ mark (propagated ps was f r k)
            pick true q =
                let z : k ≡ at = eqb→eq k at (subst T (sym q) tt) in
                ap (λ (i : ℕ). get_or (set out at y) i 0) z ∙ get_or-set_same out at y 0 (omega (arith, long, before r p l))
                ∙ ap (λ (i : ℕ). bit_or (get_or out i 0) x) (sym z)
                ∙ ap (λ (v : ℕ). bit_or v x) (had k b) ∙ ap (bit_or (mark (propagated ps was f (suc r) k))) d
                ∙ or-marks (propagated ps was f (suc r) k) (f r)
                ∙ ap mark (ap (λ (v : Bool). propagated ps was f (suc r) k || v) (sym (and-true (f r)) ∙ ap (λ (v : Bool). f r && v) (sym q)) ∙ sym (propagated-row r p l k))
            pick false q =
                get_or-set_other out at k y 0 (λ z. subst T q (subst (λ (i : ℕ). T (eqb k i)) z (eqb_refl k))) ∙ had k b
                ∙ ap mark (sym (or-false (propagated ps was f (suc r) k)) ∙ ap (λ (v : Bool). propagated ps was f (suc r) k || v) (sym (and-false (f r)) ∙ ap (λ (v : Bool). f r && v) (sym q))
                ∙ sym (propagated-row r p l k))

  -- ---- the axes up, by the parents alone
  -- the last step of a climb from q to a: from q itself, or from a row above q
  pub last_step : (q : ℕ) → q < length ps → (a : ℕ) → In a (ancestors_of ps q) → (c : ℕ) × (c < length ps) × In a (parent_of ps c) × ((c ≡ q) ⊎ In c (ancestors_of ps q))
  last_step = by-parents ps before (λ q. (a : ℕ) → In a (ancestors_of ps q) → Step q a) root later
    where
      Step : ℕ → ℕ → Type 0
      Step q a = (c : ℕ) × (c < length ps) × In a (parent_of ps c) × ((c ≡ q) ⊎ In c (ancestors_of ps q))

      root : (a : ℕ) → In a (ancestors_of ps 0) → Step 0 a
      root a i = elim (subst (In a) (root-ancestors ps) i) [ ]

      later : (q : ℕ) → 0 < q → q < length ps → ((a : ℕ) → In a (ancestors_of ps (get_or ps q 0)) → Step (get_or ps q 0) a) → (a : ℕ) → In a (ancestors_of ps q) → Step q a
      later q p l h a i = ⊎_elim first more (cases_cons (subst (In a) (later-ancestors ps before q p l) i))
        where
          line : (c : ℕ) → In c (get_or ps q 0 ∷ ancestors_of ps (get_or ps q 0)) → In c (ancestors_of ps q)
          line c j = subst (In c) (sym (later-ancestors ps before q p l)) j

          first : a ≡ get_or ps q 0 → Step q a
          first e = (q, l, subst (In a) (sym (later-parent ps q p)) (here e), inl refl)

          more : In a (ancestors_of ps (get_or ps q 0)) → Step q a
          more j =
              let s = h a j in
              (s.0, s.1, s.2, inr (line s.0 (⊎_elim (λ e. here e) (λ k. there k) s.3)))

  pub step-up : (a c : ℕ) → c < length ps → In a (parent_of ps c) → (q : ℕ) → q < length ps → (c ≡ q) ⊎ In c (ancestors_of ps q) → In a (ancestors_of ps q)
  step-up a c b i = by-parents ps before (λ q. (c ≡ q) ⊎ In c (ancestors_of ps q) → In a (ancestors_of ps q)) root later
    where
      up : (0 < c) × (a ≡ get_or ps c 0) × (a < c)
      up = parent-of a c b (is-in a i)

      root : (c ≡ 0) ⊎ In c (ancestors_of ps 0) → In a (ancestors_of ps 0)
      root h = absurd (⊎_elim (λ e. let z : 0 < c = up.0 in omega arith) (λ j. elim (subst (In c) (root-ancestors ps) j) [ ]) h)

      later : (q : ℕ) → 0 < q → q < length ps → ((c ≡ get_or ps q 0) ⊎ In c (ancestors_of ps (get_or ps q 0)) → In a (ancestors_of ps (get_or ps q 0)))
          → (c ≡ q) ⊎ In c (ancestors_of ps q) → In a (ancestors_of ps q)
      later q p l h s = subst (In a) (sym (later-ancestors ps before q p l)) (⊎_elim first more s)
        where
          first : c ≡ q → In a (get_or ps q 0 ∷ ancestors_of ps (get_or ps q 0))
          first e = here (up.1 ∙ ap (λ (k : ℕ). get_or ps k 0) e)

          more : In c (ancestors_of ps q) → In a (get_or ps q 0 ∷ ancestors_of ps (get_or ps q 0))
          more j = there (h (cases_cons (subst (In c) (later-ancestors ps before q p l) j)))

  module _ (f : RowSet) where
    pub ancestor-or-self-split : (a : ℕ) → a < length ps → image ancestor_or_self ps f a ≡ (f a || image ancestor ps f a)
    unfolding image row_on_axis
    ancestor-or-self-split a l = same_test (any_below (length ps) whole) (f a || any_below (length ps) part) to from
      where
        whole : RowSet
        whole q = f q && is_in a (q ∷ ancestors_of ps q)

        part : RowSet
        part q = f q && is_in a (ancestors_of ps q)

        to : T (any_below (length ps) whole) → T (f a || any_below (length ps) part)
        to t =
            let q = below-any (length ps) whole t in
            let c = and_cases (f q.0) (is_in a (q.0 ∷ ancestors_of ps q.0)) q.2 in
            ⊎_elim (λ e. or_left (f a) (any_below (length ps) part) (subst (λ (z : ℕ). T (f z)) (sym (eqb→eq a q.0 e)) c.0))
            (λ i. or_right (f a) (any_below (length ps) part) (any_below_lem (length ps) part q.0 q.1 (and_intro (f q.0) (is_in a (ancestors_of ps q.0)) c.0 i)))
            (or_cases (eqb a q.0) (is_in a (ancestors_of ps q.0)) c.1)

        from : T (f a || any_below (length ps) part) → T (any_below (length ps) whole)
        from t =
            ⊎_elim (λ u. any_below_lem (length ps) whole a l (and_intro (f a) (is_in a (a ∷ ancestors_of ps a)) u (or_left (eqb a a) (is_in a (ancestors_of ps a)) (eqb_refl a))))
            (λ u.
            let q = below-any (length ps) part u in
            let c = and_cases (f q.0) (is_in a (ancestors_of ps q.0)) q.2 in
            any_below_lem (length ps) whole q.0 q.1 (and_intro (f q.0) (is_in a (q.0 ∷ ancestors_of ps q.0)) c.0 (or_right (eqb a q.0) (is_in a (ancestors_of ps q.0)) c.1)))
            (or_cases (f a) (any_below (length ps) part) t)

    -- a row is above a marked one where it is the parent of one that is marked or above a marked one
    pub ancestor-step : (a : ℕ) → image ancestor ps f a ≡ image parent ps (λ c. f c || image ancestor ps f c) a
    unfolding image row_on_axis
    ancestor-step a = same_test (any_below (length ps) (over a)) (any_below (length ps) next) to from
      where
        over : ℕ → RowSet
        over b q = f q && is_in b (ancestors_of ps q)

        hit : RowSet
        hit c = f c || any_below (length ps) (over c)

        next : RowSet
        next c = hit c && is_in a (parent_of ps c)

        to : T (any_below (length ps) (over a)) → T (any_below (length ps) next)
        to t =
            let q = below-any (length ps) (over a) t in
            let c = and_cases (f q.0) (is_in a (ancestors_of ps q.0)) q.2 in
            let s = last_step q.0 q.1 a (in_is a (ancestors_of ps q.0) c.1) in
            any_below_lem (length ps) next s.0 s.1
            (and_intro (hit s.0) (is_in a (parent_of ps s.0))
            (⊎_elim (λ e. or_left (f s.0) (any_below (length ps) (over s.0)) (subst (λ (z : ℕ). T (f z)) (sym e) c.0))
            (λ i.
            or_right (f s.0) (any_below (length ps) (over s.0))
            (any_below_lem (length ps) (over s.0) q.0 q.1 (and_intro (f q.0) (is_in s.0 (ancestors_of ps q.0)) c.0 (is-in s.0 i)))) s.3) (is-in a s.2))

        from : T (any_below (length ps) next) → T (any_below (length ps) (over a))
        from t =
            let c = below-any (length ps) next t in
            let d = and_cases (hit c.0) (is_in a (parent_of ps c.0)) c.2 in
            let i = in_is a (parent_of ps c.0) d.1 in
            ⊎_elim (λ u. any_below_lem (length ps) (over a) c.0 c.1 (and_intro (f c.0) (is_in a (ancestors_of ps c.0)) u (is-in a (step-up a c.0 c.1 i c.0 c.1 (inl refl)))))
            (λ u.
            let q = below-any (length ps) (over c.0) u in
            let e = and_cases (f q.0) (is_in c.0 (ancestors_of ps q.0)) q.2 in
            any_below_lem (length ps) (over a) q.0 q.1
            (and_intro (f q.0) (is_in a (ancestors_of ps q.0)) e.0 (is-in a (step-up a c.0 c.1 i q.0 q.1 (inr (in_is c.0 (ancestors_of ps q.0) e.1))))))
            (or_cases (f c.0) (any_below (length ps) (over c.0)) d.0)

    pub ancestor-or-self-step : (a : ℕ) → a < length ps → image ancestor_or_self ps f a ≡ (f a || image parent ps (image ancestor_or_self ps f) a)
    ancestor-or-self-step a l =
        ancestor-or-self-split a l
        ∙ ap (λ (b : Bool). f a || b)
        (ancestor-step a ∙ sym (image-cong parent ps (image ancestor_or_self ps f) (λ c. f c || image ancestor ps f c) ancestor-or-self-split a))
