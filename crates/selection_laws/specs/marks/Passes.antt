-- What each pass over the columns of a table asks, and what it finds at a row.
use Rattle.std.specs.Prelude.{Bool, ◌&&◌, ◌||◌, List, [], ◌∷◌, ◌≡◌, ℕ, suc, ◌+◌, ◌-◌, ◌<◌, ◌≤◌, eqb, leb, get_or, set, replicate}
use Rattle.std.proofs.Math.Bool.{false, and-false}
use Rattle.std.proofs.Math.Path.{refl, sym, ap}
use Rattle.std.proofs.Common.{◌∙◌, add-one, arith, le-leb, length-set, ext_get_or, get_or-set_same}
use Rattle.std.proofs.lemmas.Bool.{lt-leb}
use Rattle.std.specs.Int.Bits.{bit_or, bit_and}
use Rattle.std.proofs.Math.ListN.{length}
use Rattle.std.proofs.lemmas.List.{length-replicate, get_or-replicate}
use Rattle.cells.specs.row_sets.Columns.{RowSet, mark, is_marked, marks, OnlyMarks, union, intersection, mark-test, marks-length, marks-at, marks-marked, marks-cong, mark-at}
use Rattle.cells.specs.row_sets.Loops.{Forward, forward-next, forward-all, or-marks, and-marks}
use Rattle.path_spec.specs.Paths.{Axis, self, child, descendant, descendant_or_self, parent, ancestor, ancestor_or_self}
use Rattle.selection_laws.specs.marks.Backward.{propagated, propagated-none, propagated-all, propagated-own, propagated-next, ancestor-step, ancestor-or-self-step}
use Rattle.selection_laws.specs.marks.Forward.{image-self, child-root, child-later, descendant-root, descendant-later, descendant-or-self-root, descendant-or-self-later}
use Rattle.selection_laws.specs.marks.Parents.{image, image_marks}
use Rattle.table_laws.specs.Parents.{ParentsBefore}
use Rattle.std.specs.List.{list_any}
use Rattle.text_laws.specs.Searches.{any-zero}
use Rattle.text_spec.specs.Lists.{any_below}

-- a column of parents, one of marks and room for another, of a table that is not empty
pub record AxisPass (ps m out : List ℕ) : Type 0 where
  pub before : ParentsBefore ps
  pub filled : 0 < length ps
  pub marked : OnlyMarks m
  pub size : length m ≡ length ps
  pub room : length out ≡ length ps

-- two columns of marks of one length
pub record SameLength (m out : List ℕ) : Type 0 where
  pub marked : OnlyMarks m
  pub marks-out : OnlyMarks out
  pub size : length m ≡ length out

-- a column of codes, one of marks and room for another
pub record FilterPass (codes m out : List ℕ) : Type 0 where
  pub marked : OnlyMarks m
  pub size : length m ≡ length out
  pub codes-size : length codes ≡ length out

-- the rows whose codes are in a range
unfoldable pub range_marks : ℕ → ℕ → List ℕ → List ℕ
range_marks low high codes = marks (length codes) (λ r. leb low (get_or codes r 0) && leb (get_or codes r 0) high)

-- a column of one mark
pub fill-marks : (n : ℕ) (b : Bool) → replicate n (mark b) ≡ marks n (λ r. b)
fill-marks n b =
    ext_get_or 0 (replicate n (mark b)) (marks n (λ r. b)) (length-replicate n (mark b) ∙ sym (marks-length n (λ r. b)))
    (λ r l. let k : r < n = omega (arith, length-replicate n (mark b)) in get_or-replicate n r (mark b) 0 k ∙ sym (marks-at n (λ r. b) r k))

pub image-length : (a : Axis) (ps m : List ℕ) → length (image_marks a ps m) ≡ length ps
unfolding image_marks
image-length a ps m = marks-length (length ps) (image a ps (is_marked m))

image-at : (a : Axis) (ps m : List ℕ) (r : ℕ) → r < length ps → get_or (image_marks a ps m) r 0 ≡ mark (image a ps (is_marked m) r)
unfolding image_marks
image-at a ps m r l = marks-at (length ps) (image a ps (is_marked m)) r l

-- ---- columns row by row: a pass and its turn at row r
module _ (m was : List ℕ) (h : SameLength m was) where
  pub union-length : length was ≡ length (union was m)
  unfolding union
  union-length = sym (marks-length (length was) (λ q. is_marked was q || is_marked m q))

  pub intersection-length : length was ≡ length (intersection was m)
  unfolding intersection
  intersection-length = sym (marks-length (length was) (λ q. is_marked was q && is_marked m q))

  module _ (r : ℕ) (out : List ℕ) (l : r < length out) where
    mark_of : r < length was → get_or m r 0 ≡ mark (is_marked m r)
    mark_of b = mark-at m h.marked r (omega (arith, h.size))

    pub union-next : Forward (union was m) was r out → Forward (union was m) was (r + 1) (set out r (bit_or (get_or out r 0) (get_or m r 0)))
    unfolding union
    union-next w =
        let b : r < length was = omega (arith, w.size) in
        forward-next (union was m) was r out (bit_or (get_or out r 0) (get_or m r 0)) w l
        (ap (λ (x : ℕ). bit_or x (get_or m r 0)) (w.rows.kept r (omega arith) ∙ mark-at was h.marks-out r b) ∙ ap (bit_or (mark (is_marked was r))) (mark_of b)
        ∙ or-marks (is_marked was r) (is_marked m r) ∙ sym (marks-at (length was) (λ q. is_marked was q || is_marked m q) r b))

    pub intersection-next : Forward (intersection was m) was r out → Forward (intersection was m) was (r + 1) (set out r (bit_and (get_or out r 0) (get_or m r 0)))
    unfolding intersection
    intersection-next w =
        let b : r < length was = omega (arith, w.size) in
        forward-next (intersection was m) was r out (bit_and (get_or out r 0) (get_or m r 0)) w l
        (ap (λ (x : ℕ). bit_and x (get_or m r 0)) (w.rows.kept r (omega arith) ∙ mark-at was h.marks-out r b) ∙ ap (bit_and (mark (is_marked was r))) (mark_of b)
        ∙ and-marks (is_marked was r) (is_marked m r) ∙ sym (marks-at (length was) (λ q. is_marked was q && is_marked m q) r b))

pub range_at : (low high : ℕ) (codes : List ℕ) (r : ℕ) → r < length codes → is_marked (range_marks low high codes) r ≡ (leb low (get_or codes r 0) && leb (get_or codes r 0) high)
unfolding range_marks
range_at low high codes r l = marks-marked (length codes) (λ q. leb low (get_or codes q 0) && leb (get_or codes q 0) high) r l

-- ---- a filter
module _ (low high : ℕ) (codes m was : List ℕ) (h : FilterPass codes m was) where
  abbrev kept : List ℕ
  kept = intersection m (range_marks low high codes)

  pub filter-length : length was ≡ length kept
  unfolding intersection
  filter-length = sym (marks-length (length m) (λ q. is_marked m q && is_marked (range_marks low high codes) q) ∙ h.size)

  pub filter-next : (r : ℕ) (out : List ℕ) (x : ℕ) → r < length out → x ≡ mark (leb low (get_or codes r 0) && leb (get_or codes r 0) high) → Forward kept was r out
      → Forward kept was (r + 1) (set out r (bit_and (get_or m r 0) x))
  unfolding intersection
  filter-next r out x l e w =
      let b : r < length m = omega (arith, w.size, h.size) in
      forward-next kept was r out (bit_and (get_or m r 0) x) w l
      (ap (λ (y : ℕ). bit_and y x) (mark-at m h.marked r b)
      ∙ ap (bit_and (mark (is_marked m r))) (e ∙ ap mark (sym (range_at low high codes r (omega (arith, w.size, h.codes-size)))))
      ∙ and-marks (is_marked m r) (is_marked (range_marks low high codes) r)
      ∙ sym (marks-at (length m) (λ q. is_marked m q && is_marked (range_marks low high codes) q) r b))

-- ---- whether some row is marked, with r rows behind the pass
module _ (m : List ℕ) where
  pub some-none : 0 ≡ mark (any_below 0 (is_marked m))
  unfolding any_below
  some-none = refl

  pub some_next : (r x : ℕ) → OnlyMarks m → r < length m → x ≡ mark (any_below r (is_marked m)) → bit_or x (get_or m r 0) ≡ mark (any_below (r + 1) (is_marked m))
  unfolding any_below
  some_next r x h l e =
      ap (λ (y : ℕ). bit_or y (get_or m r 0)) e ∙ ap (bit_or (mark (any_below r (is_marked m)))) (mark-at m h r l) ∙ or-marks (any_below r (is_marked m)) (is_marked m r)
      ∙ sym (ap (λ (n : ℕ). mark (any_below n (is_marked m))) (add-one r))

  pub some-all : (r x : ℕ) → r ≤ length m → length m ≤ r → x ≡ mark (any_below r (is_marked m)) → eqb x 1 ≡ any_below (length m) (is_marked m)
  some-all r x b l e =
      let z : r ≡ length m = omega arith in
      ap (λ (y : ℕ). eqb y 1) e ∙ mark-test (any_below r (is_marked m)) ∙ ap (λ (n : ℕ). any_below n (is_marked m)) z

pub some-listed : (m : List ℕ) → list_any (λ x. eqb x 1) m ≡ any_below (length m) (is_marked m)
unfolding any_below
some-listed [] = refl
some-listed (x ∷ m) = ap (λ (b : Bool). eqb x 1 || b) (some-listed m) ∙ sym (any-zero (length m) (is_marked (x ∷ m)))

-- a code against a range
pub code-above : (low high code : ℕ) → high < code → 0 ≡ mark (leb low code && leb code high)
code-above low high code h = sym (ap mark (ap (λ (b : Bool). leb low code && b) (lt-leb code high h) ∙ and-false (leb low code)))

pub code_below : (low high code : ℕ) → code < low → 0 ≡ mark (leb low code && leb code high)
code_below low high code h = sym (ap (λ (b : Bool). mark (b && leb code high)) (lt-leb low code h))

pub code-between : (low high code : ℕ) → low ≤ code → code ≤ high → 1 ≡ mark (leb low code && leb code high)
code-between low high code h k = sym (ap (λ (b : Bool). mark (b && leb code high)) (le-leb low code h) ∙ ap mark (le-leb code high k))

-- ---- the axes down
module _ (ps m was : List ℕ) (h : AxisPass ps m was) where
  mark-in : (q : ℕ) → q < length ps → mark (is_marked m q) ≡ get_or m q 0
  mark-in q l = sym (mark-at m h.marked q (omega (arith, h.size)))

  pub self-image : m ≡ image_marks self ps m
  unfolding image_marks
  self-image =
      h.marked ∙ ap (λ (n : ℕ). marks n (is_marked m)) h.size ∙ marks-cong (length ps) (is_marked m) (image self ps (is_marked m)) (λ r l. sym (image-self ps h.before (is_marked m) r l))

  pub children-root : 0 ≡ get_or (image_marks child ps m) 0 0
  children-root = sym (image-at child ps m 0 h.filled ∙ ap mark (child-root ps h.before (is_marked m) h.filled))

  pub descendants-root : 0 ≡ get_or (image_marks descendant ps m) 0 0
  descendants-root = sym (image-at descendant ps m 0 h.filled ∙ ap mark (descendant-root ps h.before (is_marked m) h.filled))

  pub descendants-or-self-root : get_or m 0 0 ≡ get_or (image_marks descendant_or_self ps m) 0 0
  descendants-or-self-root =
      sym (image-at descendant_or_self ps m 0 h.filled ∙ ap mark (descendant-or-self-root ps h.before (is_marked m) h.filled) ∙ mark-in 0 h.filled)

  module _ (r : ℕ) (some : 0 < r) (l : r < length ps) where
    up : get_or ps r 0 < length ps
    up = omega (arith, h.before r some l)

    pub children-at : get_or m (get_or ps r 0) 0 ≡ get_or (image_marks child ps m) r 0
    children-at = sym (image-at child ps m r l ∙ ap mark (child-later ps h.before (is_marked m) r some l) ∙ mark-in (get_or ps r 0) up)

    both : (a : Axis) (q : ℕ) → q < length ps → bit_or (get_or m q 0) (get_or (image_marks a ps m) (get_or ps r 0) 0) ≡ mark (is_marked m q || image a ps (is_marked m) (get_or ps r 0))
    both a q b =
        ap (λ (x : ℕ). bit_or x (get_or (image_marks a ps m) (get_or ps r 0) 0)) (sym (mark-in q b))
        ∙ ap (bit_or (mark (is_marked m q))) (image-at a ps m (get_or ps r 0) up) ∙ or-marks (is_marked m q) (image a ps (is_marked m) (get_or ps r 0))

    pub descendants-at : bit_or (get_or m (get_or ps r 0) 0) (get_or (image_marks descendant ps m) (get_or ps r 0) 0) ≡ get_or (image_marks descendant ps m) r 0
    descendants-at = both descendant (get_or ps r 0) up ∙ sym (image-at descendant ps m r l ∙ ap mark (descendant-later ps h.before (is_marked m) r some l))

    pub descendants-or-self-at : bit_or (get_or m r 0) (get_or (image_marks descendant_or_self ps m) (get_or ps r 0) 0) ≡ get_or (image_marks descendant_or_self ps m) r 0
    descendants-or-self-at = both descendant_or_self r l ∙ sym (image-at descendant_or_self ps m r l ∙ ap mark (descendant-or-self-later ps h.before (is_marked m) r some l))

  -- a column whose first row is done
  begun : (a : Axis) (x : ℕ) → x ≡ get_or (image_marks a ps m) 0 0 → AxisPass ps m (set was 0 x) × Forward (image_marks a ps m) (set was 0 x) 1 (set was 0 x)
  begun a x e =
      let l : 0 < length was = omega (arith, h.room, h.filled) in (
        record { before = h.before; filled = h.filled; marked = h.marked; size = h.size; room = length-set was 0 x ∙ h.room },
        record {
          within = omega (arith, length-set was 0 x);
          size = refl;
          rows = record { done = λ k b. (let z : k ≡ 0 = omega arith in rw z (get_or-set_same was 0 x 0 l ∙ e)); kept = λ k b. refl };
        },
      )

  pub children-begun : AxisPass ps m (set was 0 0) × Forward (image_marks child ps m) (set was 0 0) 1 (set was 0 0)
  children-begun = begun child 0 children-root

  pub descendants-begun : AxisPass ps m (set was 0 0) × Forward (image_marks descendant ps m) (set was 0 0) 1 (set was 0 0)
  descendants-begun = begun descendant 0 descendants-root

  pub descendants-or-self-begun : AxisPass ps m (set was 0 (get_or m 0 0)) × Forward (image_marks descendant_or_self ps m) (set was 0 (get_or m 0 0)) 1 (set was 0 (get_or m 0 0))
  descendants-or-self-begun = begun descendant_or_self (get_or m 0 0) descendants-or-self-root

  module _ (r : ℕ) (out : List ℕ) (some : 0 < r) (l : r < length out) where
    pub children-next : Forward (image_marks child ps m) was r out → Forward (image_marks child ps m) was (r + 1) (set out r (get_or m (get_or ps r 0) 0))
    children-next w = forward-next (image_marks child ps m) was r out (get_or m (get_or ps r 0) 0) w l (children-at r some (omega (arith, w.size, h.room)))

    pub descendants-next : Forward (image_marks descendant ps m) was r out
        → Forward (image_marks descendant ps m) was (r + 1) (set out r (bit_or (get_or m (get_or ps r 0) 0) (get_or out (get_or ps r 0) 0)))
    descendants-next w =
        let b : r < length ps = omega (arith, w.size, h.room) in
        forward-next (image_marks descendant ps m) was r out (bit_or (get_or m (get_or ps r 0) 0) (get_or out (get_or ps r 0) 0)) w l
        (ap (bit_or (get_or m (get_or ps r 0) 0)) (w.rows.done (get_or ps r 0) (h.before r some b)) ∙ descendants-at r some b)

    pub descendants-or-self-next : Forward (image_marks descendant_or_self ps m) was r out
        → Forward (image_marks descendant_or_self ps m) was (r + 1) (set out r (bit_or (get_or m r 0) (get_or out (get_or ps r 0) 0)))
    descendants-or-self-next w =
        let b : r < length ps = omega (arith, w.size, h.room) in
        forward-next (image_marks descendant_or_self ps m) was r out (bit_or (get_or m r 0) (get_or out (get_or ps r 0) 0)) w l
        (ap (bit_or (get_or m r 0)) (w.rows.done (get_or ps r 0) (h.before r some b)) ∙ descendants-or-self-at r some b)

  -- the pass has reached its end
  pub forward-image : (a : Axis) (r : ℕ) (out : List ℕ) → Forward (image_marks a ps m) was r out → length out ≤ r → out ≡ image_marks a ps m
  forward-image a r out w e = forward-all (image_marks a ps m) was r out (h.room ∙ sym (image-length a ps m)) w e

-- ---- the axes up: the column with the rows from r on behind the pass
-- the rows that mark their parents, and the rows that are marked at first
pub data Upward : Type 0 where
  to-parent to-ancestor to-ancestor-or-self : Upward

abbrev pub up_axis : Upward → Axis
up_axis to-parent = parent
up_axis to-ancestor = ancestor
up_axis to-ancestor-or-self = ancestor_or_self

unfoldable pub propagating : Upward → List ℕ → RowSet → RowSet
propagating to-parent ps f c = f c
propagating to-ancestor ps f c = f c || image ancestor ps f c
propagating to-ancestor-or-self ps f c = image ancestor_or_self ps f c

unfoldable pub initial : Upward → RowSet → RowSet
initial to-parent f c = false
initial to-ancestor f c = false
initial to-ancestor-or-self f c = f c

unfoldable pub propagated_marks : Upward → List ℕ → List ℕ → ℕ → List ℕ
propagated_marks a ps m r = marks (length ps) (propagated ps (initial a (is_marked m)) (propagating a ps (is_marked m)) r)

pub propagated-length : (a : Upward) (ps m : List ℕ) (r : ℕ) → length (propagated_marks a ps m r) ≡ length ps
unfolding propagated_marks
propagated-length a ps m r = marks-length (length ps) (propagated ps (initial a (is_marked m)) (propagating a ps (is_marked m)) r)

module _ (ps m out : List ℕ) (h : AxisPass ps m out) where
  clear-start : (a : Upward) → ((c : ℕ) → initial a (is_marked m) c ≡ false) → replicate (length ps) 0 ≡ propagated_marks a ps m (length ps)
  unfolding propagated_marks
  clear-start a e =
      fill-marks (length ps) false
      ∙ marks-cong (length ps) (λ r. false) (propagated ps (initial a (is_marked m)) (propagating a ps (is_marked m)) (length ps))
      (λ r l. sym (propagated-none ps h.before (initial a (is_marked m)) (propagating a ps (is_marked m)) r ∙ e r))

  pub parents-start : replicate (length ps) 0 ≡ propagated_marks to-parent ps m (length ps)
  unfolding initial
  parents-start = clear-start to-parent (λ c. refl)

  pub ancestors-start : replicate (length ps) 0 ≡ propagated_marks to-ancestor ps m (length ps)
  unfolding initial
  ancestors-start = clear-start to-ancestor (λ c. refl)

  pub ancestors-or-self-start : m ≡ propagated_marks to-ancestor-or-self ps m (length ps)
  unfolding propagated_marks initial
  ancestors-or-self-start =
      h.marked ∙ ap (λ (n : ℕ). marks n (is_marked m)) h.size
      ∙ marks-cong (length ps) (is_marked m) (propagated ps (is_marked m) (propagating to-ancestor-or-self ps (is_marked m)) (length ps)) (λ r l. sym (propagated-none ps h.before (is_marked m) (propagating to-ancestor-or-self ps (is_marked m)) r))

  -- the pass has reached its end
  module _ (r : ℕ) (end : r ≤ 1) where
    ended : (a : Upward) → ((c : ℕ) → c < length ps → (initial a (is_marked m) c || image parent ps (propagating a ps (is_marked m)) c) ≡ image (up_axis a) ps (is_marked m) c) → propagated_marks a ps m r ≡ image_marks (up_axis a) ps m
    unfolding propagated_marks image_marks
    ended a e =
        marks-cong (length ps) (propagated ps (initial a (is_marked m)) (propagating a ps (is_marked m)) r) (image (up_axis a) ps (is_marked m))
        (λ c l. propagated-all ps h.before (initial a (is_marked m)) (propagating a ps (is_marked m)) r end c ∙ e c l)

    pub parents-end : propagated_marks to-parent ps m r ≡ image_marks parent ps m
    unfolding initial propagating
    parents-end = ended to-parent (λ c l. refl)

    pub ancestors-end : propagated_marks to-ancestor ps m r ≡ image_marks ancestor ps m
    unfolding initial propagating
    ancestors-end = ended to-ancestor (λ c l. sym (ancestor-step ps h.before (is_marked m) c))

    pub ancestors-or-self-end : propagated_marks to-ancestor-or-self ps m r ≡ image_marks ancestor_or_self ps m
    unfolding initial propagating
    ancestors-or-self-end = ended to-ancestor-or-self (λ c l. sym (ancestor-or-self-step ps h.before (is_marked m) c l))

  -- a turn at row r
  module _ (r : ℕ) (some : 0 < r) (l : r < length ps) where
    pub turned : (a : Upward) (x : ℕ) → x ≡ mark (propagating a ps (is_marked m) r)
        → set (propagated_marks a ps m (suc r)) (get_or ps r 0) (bit_or (get_or (propagated_marks a ps m (suc r)) (get_or ps r 0) 0) x) ≡ propagated_marks a ps m r
    unfolding propagated_marks
    turned a x e = propagated-next ps h.before (initial a (is_marked m)) (propagating a ps (is_marked m)) r some l (marks (length ps) (propagated ps (initial a (is_marked m)) (propagating a ps (is_marked m)) (suc r))) x refl e

    own : (a : Upward) → get_or (propagated_marks a ps m (suc r)) r 0 ≡ mark (initial a (is_marked m) r || image parent ps (propagating a ps (is_marked m)) r)
    unfolding propagated_marks
    own a =
        marks-at (length ps) (propagated ps (initial a (is_marked m)) (propagating a ps (is_marked m)) (suc r)) r l
        ∙ ap mark (propagated-own ps h.before (initial a (is_marked m)) (propagating a ps (is_marked m)) r)

    mine : get_or m r 0 ≡ mark (is_marked m r)
    mine = mark-at m h.marked r (omega (arith, h.size))

    -- the mark that the row adds to its parent's cell
    pub parents-mark : get_or m r 0 ≡ mark (propagating to-parent ps (is_marked m) r)
    unfolding propagating
    parents-mark = mine

    pub ancestors-mark : bit_or (get_or m r 0) (get_or (propagated_marks to-ancestor ps m (suc r)) r 0) ≡ mark (propagating to-ancestor ps (is_marked m) r)
    unfolding propagating initial
    ancestors-mark =
        ap (λ (x : ℕ). bit_or x (get_or (propagated_marks to-ancestor ps m (suc r)) r 0)) mine
        ∙ ap (bit_or (mark (is_marked m r))) (own to-ancestor ∙ ap mark (sym (ancestor-step ps h.before (is_marked m) r)))
        ∙ or-marks (is_marked m r) (image ancestor ps (is_marked m) r)

    pub ancestors-or-self-mark : get_or (propagated_marks to-ancestor-or-self ps m (suc r)) r 0 ≡ mark (propagating to-ancestor-or-self ps (is_marked m) r)
    unfolding propagating initial
    ancestors-or-self-mark = own to-ancestor-or-self ∙ ap mark (sym (ancestor-or-self-step ps h.before (is_marked m) r l))

    pub parents-turn : set (propagated_marks to-parent ps m (suc r)) (get_or ps r 0) (bit_or (get_or (propagated_marks to-parent ps m (suc r)) (get_or ps r 0) 0) (get_or m r 0)) ≡ propagated_marks to-parent ps m r
    parents-turn = turned to-parent (get_or m r 0) parents-mark

    pub ancestors-turn : set (propagated_marks to-ancestor ps m (suc r)) (get_or ps r 0)
        (bit_or (get_or (propagated_marks to-ancestor ps m (suc r)) (get_or ps r 0) 0) (bit_or (get_or m r 0) (get_or (propagated_marks to-ancestor ps m (suc r)) r 0))) ≡ propagated_marks to-ancestor ps m r
    ancestors-turn = turned to-ancestor (bit_or (get_or m r 0) (get_or (propagated_marks to-ancestor ps m (suc r)) r 0)) ancestors-mark

    pub ancestors-or-self-turn : set (propagated_marks to-ancestor-or-self ps m (suc r)) (get_or ps r 0)
        (bit_or (get_or (propagated_marks to-ancestor-or-self ps m (suc r)) (get_or ps r 0) 0) (get_or (propagated_marks to-ancestor-or-self ps m (suc r)) r 0)) ≡ propagated_marks to-ancestor-or-self ps m r
    ancestors-or-self-turn = turned to-ancestor-or-self (get_or (propagated_marks to-ancestor-or-self ps m (suc r)) r 0) ancestors-or-self-mark

-- ---- a pass up with the rows from r on behind it
pub record Backward (a : Upward) (ps m : List ℕ) (r : ℕ) (out : List ℕ) : Type 0 where
  pub pass : AxisPass ps m out
  pub within : r ≤ length ps
  pub column : out ≡ propagated_marks a ps m r

with-room : {ps m was : List ℕ} (out : List ℕ) → AxisPass ps m was → length out ≡ length ps → AxisPass ps m out
with-room out h e = record { before = h.before; filled = h.filled; marked = h.marked; size = h.size; room = e }

backward-from : (a : Upward) (ps m was out : List ℕ) → AxisPass ps m was → length out ≡ length ps → out ≡ propagated_marks a ps m (length ps) → Backward a ps m (length out) out
backward-from a ps m was out h e d = record { pass = with-room out h e; within = omega arith; column = d ∙ ap (propagated_marks a ps m) (sym e) }

module _ (ps m was out : List ℕ) (h : AxisPass ps m was) where
  cleared : (a : Upward) → replicate (length ps) 0 ≡ propagated_marks a ps m (length ps) → out ≡ replicate (length was) 0 → Backward a ps m (length out) out
  cleared a s e =
      backward-from a ps m was out h (ap length e ∙ length-replicate (length was) 0 ∙ h.room) (e ∙ ap (λ (n : ℕ). replicate n 0) h.room ∙ s)

  pub parents-begun : out ≡ replicate (length was) 0 → Backward to-parent ps m (length out) out
  parents-begun = cleared to-parent (parents-start ps m was h)

  pub ancestors-begun : out ≡ replicate (length was) 0 → Backward to-ancestor ps m (length out) out
  ancestors-begun = cleared to-ancestor (ancestors-start ps m was h)

  pub ancestors-or-self-begun : out ≡ m → Backward to-ancestor-or-self ps m (length out) out
  ancestors-or-self-begun e = backward-from to-ancestor-or-self ps m was out h (ap length e ∙ h.size) (e ∙ ancestors-or-self-start ps m was h)

-- the turn that takes row r - 1, which marks its parent by x of the column so far
module _ (ps m : List ℕ) (r : ℕ) (out : List ℕ) (more : 1 < r) where
  backward-next : (a : Upward) (x : List ℕ → ℕ) → Backward a ps m r out
      → (let l = propagated_marks a ps m (suc (r - 1)) in set l (get_or ps (r - 1) 0) (bit_or (get_or l (get_or ps (r - 1) 0) 0) (x l)) ≡ propagated_marks a ps m (r - 1))
      → Backward a ps m (r - 1) (set out (get_or ps (r - 1) 0) (bit_or (get_or out (get_or ps (r - 1) 0) 0) (x out)))
  backward-next a x w t =
      record {
        pass = with-room _ w.pass (length-set out (get_or ps (r - 1) 0) (bit_or (get_or out (get_or ps (r - 1) 0) 0) (x out)) ∙ w.pass.room);
        within = omega (arith, w.within);
        column =
            ap (λ (o : List ℕ). set o (get_or ps (r - 1) 0) (bit_or (get_or o (get_or ps (r - 1) 0) 0) (x o))) (w.column ∙ ap (propagated_marks a ps m) same) ∙ t;
      }
    where
      same : r ≡ suc (r - 1)
      same = omega arith

  pub parents-next : Backward to-parent ps m r out → Backward to-parent ps m (r - 1) (set out (get_or ps (r - 1) 0) (bit_or (get_or out (get_or ps (r - 1) 0) 0) (get_or m (r - 1) 0)))
  parents-next w = backward-next to-parent (λ o. get_or m (r - 1) 0) w (parents-turn ps m out w.pass (r - 1) (omega arith) (omega (arith, w.within)))

  pub ancestors_next : Backward to-ancestor ps m r out
      → Backward to-ancestor ps m (r - 1) (set out (get_or ps (r - 1) 0) (bit_or (get_or out (get_or ps (r - 1) 0) 0) (bit_or (get_or m (r - 1) 0) (get_or out (r - 1) 0))))
  ancestors_next w =
      backward-next to-ancestor (λ o. bit_or (get_or m (r - 1) 0) (get_or o (r - 1) 0)) w (ancestors-turn ps m out w.pass (r - 1) (omega arith) (omega (arith, w.within)))

  pub ancestors-or-self-next : Backward to-ancestor-or-self ps m r out
      → Backward to-ancestor-or-self ps m (r - 1) (set out (get_or ps (r - 1) 0) (bit_or (get_or out (get_or ps (r - 1) 0) 0) (get_or out (r - 1) 0)))
  ancestors-or-self-next w =
      backward-next to-ancestor-or-self (λ o. get_or o (r - 1) 0) w (ancestors-or-self-turn ps m out w.pass (r - 1) (omega arith) (omega (arith, w.within)))

pub backward-all : (a : Upward) (ps m : List ℕ) (r : ℕ) (out : List ℕ) → Backward a ps m r out → r ≤ 1 → out ≡ image_marks (up_axis a) ps m
backward-all a ps m r out w e = w.column ∙ by-axis a
  where
    by-axis : (b : Upward) → propagated_marks b ps m r ≡ image_marks (up_axis b) ps m
    by-axis to-parent = parents-end ps m out w.pass r e
    by-axis to-ancestor = ancestors-end ps m out w.pass r e
    by-axis to-ancestor-or-self = ancestors-or-self-end ps m out w.pass r e
