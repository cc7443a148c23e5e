-- The test of well-formed tables passes exactly where document 01's sentences hold.
use Rattle.std.specs.Prelude.{Bool, false, not, ◌&&◌, ◌||◌, ◌↔◌, ◌⊎◌, ◌≡◌, ℕ, zero, suc, ◌+◌, ◌<◌, ◌≤◌, T, eqb, leb, length}
use mathlib.Core.List.{List, [], ◌∷◌, ◌++◌, append_assoc, Memᴰ as In}
use Rattle.std.proofs.Common.{inl, inr, ⊎_elim, sym, ap, subst, ◌∙◌, arith, eqb→eq, leb→le, le→leb, length-append, length-take, length-drop}
use Rattle.std.proofs.Math.Option.{Option, none, some}
use Rattle.std.proofs.Math.Path.{refl}
use Rattle.std.proofs.Math.Dec.{eqb_refl}
use Rattle.std.proofs.Math.ListN.{get_elem?}
use Rattle.schema_spec.specs.Names.{Name, element, text, is_text}
use Rattle.schema_spec.specs.Types.{Types}
use Rattle.table_laws.specs.Fits.{attached-number, parent-found, RowFits, row_fits_lem, fits-row, rooted, rooted-fits}
use Rattle.table_laws.specs.Nodes.{nodes-equal, nodes-same}
use Rattle.table_laws.specs.Places.{at-end, at_only, at-before-or-end, at_bound, at_some, in-at, at_in}
use Rattle.table_laws.specs.RowNodes.{NodeOf, root-node, later-node, Rising, node_row, one-node, one_place, row-above, node-above, depth-of, one-depth}
use Rattle.table_spec.specs.Conditions.{RowAt, RowAbove, TextCells, of-element, of-text, LaterRow, WellFormed, CopiedOrDecoded, is-copied, is-decoded, WellFormedBeside}
use Rattle.table_spec.specs.Nodes.{Node, top, under, node_number, name_of, same, is_above, depth_of, attach_to, node_at}
use Rattle.table_spec.specs.Rows.{Row, text_of, characters_of}
use Rattle.table_spec.specs.Tables.{parent_open, same_parent, text_fits, row_fits, later_rows, well_formed, bytes_inside, is_size, copied_or_decoded, text_inside, well_formed_with}
use Rattle.text_laws.specs.Lists.{any-in, in-any, all_in, in_all}
use Rattle.text_laws.specs.Tests.{or_left, or_right, or_cases, and_cases, and_intro, not-intro, not-elim, decided}
use Rattle.text_spec.specs.Bytes.{is_foreign}
use Rattle.text_spec.specs.Limits.{max_text_bytes}
use Rattle.text_spec.specs.Lists.{any_of, all_of}
use Rattle.token_laws.specs.Texts.{text-sized, sized-text}
use Rattle.token_spec.specs.Texts.{decoded_size}

-- "an element .. carries text 0, 0; a text row has length 1 to 4,096"; "an element's decoded length is 0, a text's 1 to its raw length"
pub cells-mean : (n : Name) (r : Row) → r.name ≡ n → T (text_fits n r) → TextCells r
cells-mean (element e) r q t =
    let c = and_cases (eqb r.start 0) (eqb r.size 0 && eqb r.decoded 0) t in
    let d = and_cases (eqb r.size 0) (eqb r.decoded 0) c.1 in
    of-element q (eqb→eq _ _ c.0) (eqb→eq _ _ d.0) (eqb→eq _ _ d.1)
cells-mean (text e) r q t =
    let c = and_cases (leb 1 r.size) (leb r.size max_text_bytes && (leb 1 r.decoded && leb r.decoded r.size)) t in
    let d = and_cases (leb r.size max_text_bytes) (leb 1 r.decoded && leb r.decoded r.size) c.1 in
    let e = and_cases (leb 1 r.decoded) (leb r.decoded r.size) d.1 in
    of-text q (leb→le _ _ c.0) (leb→le _ _ d.0) (leb→le _ _ e.0) (leb→le _ _ e.1)

pub mean-cells : (r : Row) → TextCells r → T (text_fits r.name r)
mean-cells r (of-element q a b c) = rw (q, a, b, c) tt
mean-cells r (of-text q a b c d) =
    rw q
    (and_intro (leb 1 r.size) _ (le→leb _ _ a)
    (and_intro (leb r.size max_text_bytes) _ (le→leb _ _ b)
    (and_intro (leb 1 r.decoded) (leb r.decoded r.size) (le→leb _ _ c) (le→leb _ _ d))))

module _ (s : Types) (rows : List Row) (rise : Rising rows) where
  -- the nodes of rows 0 to i
  record Built (before : List Node) (i : ℕ) (previous : Node) : Type 0 where
    pub count : length before ≡ suc i
    pub nodes : (j : ℕ) (y : Node) → get_elem? before j ≡ some y → NodeOf rows j y
    pub last : get_elem? before i ≡ some previous

  built-next : (before : List Node) (i : ℕ) (previous : Node) (y : Node) → Built before i previous → NodeOf rows (suc i) y → Built (before ++ (y ∷ [])) (suc i) y
  built-next before i previous y b n =
      let size : length (before ++ (y ∷ [])) ≡ suc (suc i) = omega (arith, length-append before (y ∷ []), b.count) in
      let end = ap (get_elem? (before ++ (y ∷ []))) (sym b.count) ∙ at-end before y [] in
      record { count = size; nodes = λ j z e. pick j z (at-before-or-end before y j z e); last = end }
    where
      pick : (j : ℕ) (z : Node) → (get_elem? before j ≡ some z) ⊎ ((j ≡ length before) × (z ≡ y)) → NodeOf rows j z
      pick j z (inl e) = b.nodes j z e
      pick j z (inr e) = rw (e.0 ∙ b.count, e.1) n

  -- a later row, whose parent's node is p
  module _ (before : List Node) (i : ℕ) (previous : Node) (q r : Row) (p : Node) (b : Built before i previous) (g : RowAt rows i q) (h : RowAt rows (suc i) r)
      (e : get_elem? before r.parent ≡ some p) where
    abbrev y : Node
    y = under r.number r.name (characters_of [] r) p

    previous-node : NodeOf rows i previous
    previous-node = b.nodes i previous b.last

    parent-node : NodeOf rows r.parent p
    parent-node = b.nodes r.parent p e

    this-node : NodeOf rows (suc i) y
    this-node = later-node h (omega (arith, at_bound before r.parent p e, b.count)) parent-node

    previous-number : node_number previous ≡ q.number
    previous-number =
        let c = node_row previous-node in
        let first : c.0 ≡ q = cc c.1 in
        c.2 ∙ rw first

    parent-name : (z : Row) → RowAt rows r.parent z → name_of p ≡ z.name
    parent-name z k =
        let c = node_row parent-node in
        let first : c.0 ≡ z = cc c.1 in
        c.3 ∙ rw first

    abbrev twin : Node → Bool
    twin z = is_text (name_of z) && same_parent z y

    -- a text before under the same parent is a second text
    is-twin : (j : ℕ) (z : Row) (w : Node) → RowAt rows (suc j) z → T (is_text z.name) → z.parent ≡ r.parent → NodeOf rows (suc j) w → T (twin w)
    is-twin j z w k t a (later-node {r = x} {p = o} k' l n) =
        let first : x ≡ z = cc in
        let up : x.parent ≡ r.parent = rw first a in
        let one : o ≡ p = one-node (subst (λ (m : ℕ). NodeOf rows m o) up n) parent-node in
        and_intro (is_text x.name) (same o p) (rw first t) (rw one (nodes-same p))

    twin-is : (j : ℕ) (w : Node) → NodeOf rows j w → T (twin w)
        → (k : ℕ) × (z : Row) × (j ≡ suc k) × RowAt rows (suc k) z × T (is_text z.name) × (z.parent ≡ r.parent)
    twin-is j w (root-node {r = x} k) t = absurd (and_cases (is_text x.name) false t).1
    twin-is j w (later-node {i = k} {r = x} {p = o} k' l n) t =
        let c = and_cases (is_text x.name) (same o p) t in
        (k, x, refl, k', c.0, one_place rise n (subst (λ (z : Node). NodeOf rows r.parent z) (sym (nodes-equal o p c.1)) parent-node))

    fits-mean : RowFits s before previous r y → LaterRow s rows i q r
    fits-mean f =
        record {
          rises = omega (arith, previous-number, f.rises);
          small = f.small;
          parent_open = ⊎_elim at-previous above (or_cases (same p previous) (is_above p previous) f.is_open);
          held = λ z k. rw (← parent-name z k) f.held;
          shallow = λ d k. omega (arith, one-depth k this-node, f.shallow);
          one_text = lone;
          cells = cells-mean r.name r refl f.cells;
        }
      where
        at-previous : T (same p previous) → (r.parent ≡ i) ⊎ RowAbove rows r.parent i
        at-previous u = inl (one_place rise parent-node (subst (λ (z : Node). NodeOf rows i z) (sym (nodes-equal p previous u)) previous-node))

        above : T (is_above p previous) → (r.parent ≡ i) ⊎ RowAbove rows r.parent i
        above u =
            let c = node-above p previous-node u in
            inr (subst (λ (k : ℕ). RowAbove rows k i) (one_place rise c.2 parent-node) c.1)

        lone : T (is_text r.name) → (j : ℕ) (z : Row) → j < i → RowAt rows (suc j) z → T (is_text z.name) → z.parent ≡ r.parent → ⊥
        lone t j z l k u a =
            let w = at_some before (suc j) (omega (arith, b.count)) in
            let found = any-in twin (at_in before (suc j) w.0 w.1) (is-twin j z w.0 k u a (b.nodes (suc j) w.0 w.1)) in
            not-elim (is_text r.name && any_of twin before) f.one_text (and_intro (is_text r.name) (any_of twin before) t found)

    mean-fits : LaterRow s rows i q r → RowFits s before previous r y
    mean-fits f =
        record {
          rises = omega (arith, previous-number, f.rises);
          small = f.small;
          is_open = ⊎_elim at-previous above f.parent_open;
          held = hold (node_row parent-node);
          shallow = f.shallow (depth_of y) (depth-of this-node);
          one_text = not-intro (is_text r.name && any_of twin before) lone;
          cells = mean-cells r f.cells;
        }
      where
        at-previous : r.parent ≡ i → T (same p previous || is_above p previous)
        at-previous u =
            let one : p ≡ previous = one-node (subst (λ (k : ℕ). NodeOf rows k p) u parent-node) previous-node in
            or_left (same p previous) (is_above p previous) (rw one (nodes-same previous))

        above : RowAbove rows r.parent i → T (same p previous || is_above p previous)
        above u =
            let c = row-above u previous-node in
            or_right (same p previous) (is_above p previous) (subst (λ (z : Node). T (is_above z previous)) (one-node c.1 parent-node) c.2)

        hold : (z : Row) × RowAt rows r.parent z × (node_number p ≡ z.number) × (name_of p ≡ z.name) → T (s.holds (name_of p) r.name)
        hold c = rw c.3 (f.held c.0 c.1)

        lone : T (is_text r.name && any_of twin before) → ⊥
        lone t =
            let c = and_cases (is_text r.name) (any_of twin before) t in
            let w = in-any twin before c.1 in
            let j = in-at w.1 in
            let d = twin-is j.0 w.0 (b.nodes j.0 w.0 j.1) w.2 in
            f.one_text c.0 d.0 d.1 (omega (arith, at_bound before j.0 w.0 j.1, b.count, d.2)) d.3 d.4 d.5

  here-row : (done : List Row) (r : Row) (rs : List Row) → rows ≡ done ++ r ∷ rs → RowAt rows (length done) r
  here-row done r rs e = rw e (at-end done r rs)

  -- a later row fits exactly if what is said of it holds
  module _ (before : List Node) (i : ℕ) (previous : Node) (q r : Row) (b : Built before i previous) (g : RowAt rows i q) (h : RowAt rows (suc i) r) where
    fits-later : RowFits s before previous r (node_at [] before r) → LaterRow s rows i q r × NodeOf rows (suc i) (node_at [] before r)
    fits-later f =
        let o = parent-found previous r.number r.name (characters_of [] r) (get_elem? before r.parent) f.is_open in
        let node : node_at [] before r ≡ under r.number r.name (characters_of [] r) o.0 = ap (attach_to r.number r.name (characters_of [] r)) o.1 in
        (fits-mean before i previous q r o.0 b g h o.1 (rw node at f), rw node (this-node before i previous q r o.0 b g h o.1))

    later-fits : LaterRow s rows i q r → RowFits s before previous r (node_at [] before r) × NodeOf rows (suc i) (node_at [] before r)
    later-fits f =
        let low : r.parent ≤ i = ⊎_elim (λ u. omega arith) (λ u. let c = (row-above u (b.nodes i previous b.last)).3 in omega arith) f.parent_open in
        let o = at_some before r.parent (omega (arith, b.count)) in
        let node : node_at [] before r ≡ under r.number r.name (characters_of [] r) o.0 = ap (attach_to r.number r.name (characters_of [] r)) o.1 in
        (rw node (mean-fits before i previous q r o.0 b g h o.1 f), rw node (this-node before i previous q r o.0 b g h o.1))

  -- the rows from place i + 1 on
  laters-mean : (done rs : List Row) (before : List Node) (i : ℕ) (previous : Node) → Built before i previous → rows ≡ done ++ rs → length done ≡ suc i
      → T (later_rows s before previous rs) → (j : ℕ) (q r : Row) → i ≤ j → RowAt rows j q → RowAt rows (suc j) r → LaterRow s rows j q r
  laters-mean done [] before i previous b e l t j q r h g k = absurd (omega (arith, at_bound rows (suc j) r k, ap length e, length-append done []))
  laters-mean done (x ∷ rs) before i previous b e l t j q r h g k =
      ⊎_elim (λ u. now (eqb→eq i j u))
      (λ n. laters-mean (done ++ (x ∷ [])) rs (before ++ (y ∷ [])) (suc i) y
      (built-next before i previous y b (node (at_some rows i (omega (arith, at_bound rows (suc j) r k))))) (e ∙ sym (append_assoc done (x ∷ []) rs))
      (omega (arith, length-append done (x ∷ []))) c.1 j q r (later n) g k) (decided (eqb i j))
    where
      y : Node
      y = node_at [] before x

      c : T (row_fits s before previous x y) × T (later_rows s (before ++ (y ∷ [])) y rs)
      c = and_cases (row_fits s before previous x y) (later_rows s (before ++ (y ∷ [])) y rs) t

      this : RowAt rows (suc i) x
      this = rw l at (here-row done x rs e)

      node : (z : Row) × RowAt rows i z → NodeOf rows (suc i) y
      node z = (fits-later before i previous z.0 x b z.1 this (row_fits_lem s before previous x y c.0)).1

      now : i ≡ j → LaterRow s rows j q r
      now u =
          let k' : RowAt rows (suc i) r = rw (← u) at k in
          let one : r ≡ x = cc (this, k') in
          rw (← u, one) (fits-later before i previous q x b (rw (← u) at g) this (row_fits_lem s before previous x y c.0)).0

      later : (T (eqb i j) → ⊥) → suc i ≤ j
      later n =
          let apart : i ≡ j → ⊥ = λ u. n (rw u (eqb_refl j)) in
          omega arith

  laters-fit : (done rs : List Row) (before : List Node) (i : ℕ) (previous : Node) → Built before i previous → rows ≡ done ++ rs → length done ≡ suc i
      → ((j : ℕ) (q r : Row) → RowAt rows j q → RowAt rows (suc j) r → LaterRow s rows j q r) → T (later_rows s before previous rs)
  laters-fit done [] before i previous b e l f = tt
  laters-fit done (r ∷ rs) before i previous b e l f =
      let y = node_at [] before r in
      let g = here-row done r rs e in
      let q = at_some rows i (omega (arith, at_bound rows (length done) r g)) in
      let c = later-fits before i previous q.0 r b q.1 (rw l at g) (f i q.0 r q.1 (rw l at g)) in
      and_intro (row_fits s before previous r y) (later_rows s (before ++ (y ∷ [])) y rs) (fits-row s before previous r y c.0)
      (laters-fit (done ++ (r ∷ [])) rs (before ++ (y ∷ [])) (suc i) y (built-next before i previous y b c.1) (e ∙ sym (append_assoc done (r ∷ []) rs))
      (omega (arith, length-append done (r ∷ []))) f)

-- numbers that rise from row to next row rise over all rows
next-rising : (rows : List Row) → ((j : ℕ) (q r : Row) → RowAt rows j q → RowAt rows (suc j) r → q.number < r.number) → Rising rows
next-rising rows f i zero q r h g k = absurd (omega arith)
next-rising rows f i (suc j) q r h g k =
    let m = at_some rows j (omega (arith, at_bound rows (suc j) r k)) in
    let l = f j m.0 r m.1 k in
    pick m.0 m.1 l (decided (eqb i j)) (λ u. next-rising rows f i j q m.0 u g m.1)
  where
    pick : (x : Row) → RowAt rows j x → x.number < r.number → T (eqb i j) ⊎ (T (eqb i j) → ⊥) → (i < j → q.number < x.number) → q.number < r.number
    pick x gx l (inl t) rec =
        let u = eqb→eq i j t in
        let g' : RowAt rows j q = rw u at g in
        let one : q ≡ x = cc in
        rw one l
    pick x gx l (inr n) rec =
        let apart : i ≡ j → ⊥ = λ u. n (rw u (eqb_refl j)) in
        let v = rec (omega arith) in
        omega arith

test-rises : (s : Types) (before : List Node) (previous : Node) (x : Row) (rs : List Row) → node_number previous ≡ x.number → T (later_rows s before previous rs)
    → (j : ℕ) (q r : Row) → RowAt (x ∷ rs) j q → RowAt (x ∷ rs) (suc j) r → q.number < r.number
test-rises s before previous x [] e t j q r g k = absurd (omega (arith, at_bound (x ∷ []) (suc j) r k))
test-rises s before previous x (z ∷ rs) e t zero q r g k =
    let c = and_cases (row_fits s before previous z (node_at [] before z)) (later_rows s (before ++ (node_at [] before z ∷ [])) (node_at [] before z) rs) t in
    let one : q ≡ x = cc in
    let two : r ≡ z = cc in
    rw (one, two, ← e) (row_fits_lem s before previous z (node_at [] before z) c.0).rises
test-rises s before previous x (z ∷ rs) e t (suc j) q r g k =
    let y = node_at [] before z in
    let c = and_cases (row_fits s before previous z y) (later_rows s (before ++ (y ∷ [])) y rs) t in
    test-rises s (before ++ (y ∷ [])) y z rs (attached-number z.number z.name (characters_of [] z) (get_elem? before z.parent)) c.1 j q r g k

module _ (s : Types) where
  root-built : (r : Row) (rs : List Row) (rise : Rising (r ∷ rs)) → Built s (r ∷ rs) rise (top r.number r.name ∷ []) 0 (top r.number r.name)
  root-built r rs rise =
      record { count = refl; nodes = λ j y e. (let c = at_only (top r.number r.name) j y e in rw (c.0, c.1) (root-node refl)); last = refl }

  pub table-means : (rows : List Row) → T (well_formed s rows) → WellFormed s rows
  table-means [] t = record { root_row = λ r g. absurd (omega (arith, at_bound [] 0 r g)); later_row = λ i q r g k. absurd (omega (arith, at_bound [] i q g)) }
  table-means (x ∷ rs) t =
      let c = rooted s x rs t in
      let y = top x.number x.name in
      let rise = next-rising (x ∷ rs) (test-rises s (y ∷ []) y x rs refl c.later) in
      record {
        root_row = λ r g. (let one : r ≡ x = cc in rw one (c.number, c.name, c.parent, cells-mean x.name x refl c.cells));
        later_row = λ i q r g k. laters-mean s (x ∷ rs) rise (x ∷ []) rs (y ∷ []) 0 y (root-built x rs rise) refl refl c.later i q r (omega arith) g k;
      }

  pub table-tests : (rows : List Row) → WellFormed s rows → T (well_formed s rows)
  unfolding well_formed
  table-tests [] w = tt
  table-tests (x ∷ rs) w =
      let y = top x.number x.name in
      let rise = next-rising (x ∷ rs) (λ j q r g k. (w.later_row j q r g k).rises) in
      let c = w.root_row x refl in
      let later = laters-fit s (x ∷ rs) rise (x ∷ []) rs (y ∷ []) 0 y (root-built x rs rise) refl refl w.later_row in
      rooted-fits s x rs (record { number = c.0; name = c.1; parent = c.2; cells = mean-cells x c.3; later = later })

abbrev passes : ℕ → Bool
passes b = not (is_foreign b)

-- a size is one that is computed
is-size : (n : ℕ) (o : Option ℕ) → T (is_size n o) → o ≡ some n
is-size n none t = absurd t
is-size n (some m) t = ap some (eqb→eq m n t)

-- a text row's range lies inside its text, its bytes pass 3, and it is copied or decoded
module _ (lent : List ℕ) (r : Row) where
  pub decodes-means : T (copied_or_decoded lent r) → CopiedOrDecoded lent r
  decodes-means t =
      ⊎_elim (λ u. is-copied (eqb→eq r.decoded r.size u))
      (λ u.
      let c = sized-text (text_of lent r) r.decoded (is-size r.decoded (decoded_size (text_of lent r)) u) in
      is-decoded c.0 c.1) (or_cases (eqb r.decoded r.size) (is_size r.decoded (decoded_size (text_of lent r))) t)

  pub means-decodes : CopiedOrDecoded lent r → T (copied_or_decoded lent r)
  means-decodes (is-copied e) = or_left (eqb r.decoded r.size) _ (rw e (eqb_refl r.size))
  means-decodes (is-decoded t e) = or_right (eqb r.decoded r.size) _ (rw (text-sized t, e) (eqb_refl r.decoded))

  abbrev Inside : Type 0
  Inside = (r.start + r.size ≤ length lent) × ((b : ℕ) → In b (text_of lent r) → T (is_foreign b) → ⊥) × CopiedOrDecoded lent r

  inside-means : T (text_inside lent r) → T (is_text r.name) → Inside
  inside-means t u =
      let w = text_of lent r in
      let c = ⊎_elim (λ n. absurd (not-elim (is_text r.name) n u)) (λ v. and_cases (bytes_inside lent r) (copied_or_decoded lent r) v)
      (or_cases (not (is_text r.name)) (bytes_inside lent r && copied_or_decoded lent r) t) in
      let d = and_cases (leb r.start (length lent)) (eqb (length w) r.size && all_of passes w) c.0 in
      let e = and_cases (eqb (length w) r.size) (all_of passes w) d.1 in
      let size = simp (length-take, length-drop) at (eqb→eq (length w) r.size e.0) in
      (omega (arith, leb→le r.start (length lent) d.0, size), (λ b i f. not-elim (is_foreign b) (all_in passes e.1 i) f), decodes-means c.1)

  inside-tests : (T (is_text r.name) → Inside) → T (text_inside lent r)
  inside-tests f = ⊎_elim text-row other (decided (is_text r.name))
    where
      text-row : T (is_text r.name) → T (text_inside lent r)
      text-row u =
          let c = f u in
          let range = c.0 in
          let size : length (text_of lent r) ≡ r.size = simp (length-take, length-drop) (omega arith) in
          or_right (not (is_text r.name)) _
          (and_intro (bytes_inside lent r) (copied_or_decoded lent r)
          (and_intro (leb r.start (length lent)) _ (le→leb r.start (length lent) (omega arith))
          (and_intro (eqb (length (text_of lent r)) r.size) _ (rw size (eqb_refl r.size))
          (in_all passes (text_of lent r) (λ b i. not-intro (is_foreign b) (c.1 b i)))))
          (means-decodes c.2))

      other : (T (is_text r.name) → ⊥) → T (text_inside lent r)
      other n = or_left (not (is_text r.name)) _ (not-intro (is_text r.name) n)

-- The test of a table with the text lent beside it is what document 01 says of it.
pub well-formed-beside : (s : Types) (lent : List ℕ) (rows : List Row) → T (well_formed_with s lent rows) ↔ WellFormedBeside s lent rows
unfolding well_formed_with
well-formed-beside s lent rows = (means, tests)
  where
    means : T (well_formed_with s lent rows) → WellFormedBeside s lent rows
    means t =
        let c = and_cases (well_formed s rows) (all_of (text_inside lent) rows) t in
        let fits : (r : Row) → In r rows → T (text_inside lent r) = λ r i. all_in (text_inside lent) c.1 i in
        record {
          table = table-means s rows c.0;
          inside = λ r i u. (inside-means lent r (fits r i) u).0;
          passes = λ r i u. (inside-means lent r (fits r i) u).1;
          spelt = λ r i u. (inside-means lent r (fits r i) u).2;
        }

    tests : WellFormedBeside s lent rows → T (well_formed_with s lent rows)
    tests w =
        and_intro (well_formed s rows) (all_of (text_inside lent) rows) (table-tests s rows w.table)
        (in_all (text_inside lent) rows (λ r i. inside-tests lent r (λ u. (w.inside r i u, w.passes r i u, w.spelt r i u))))

-- a table that is well formed beside a text is so without it
pub well-formed-alone : (s : Types) (lent : List ℕ) (rows : List Row) → T (well_formed_with s lent rows) → T (well_formed s rows)
unfolding well_formed_with
well-formed-alone s lent rows ok = (and_cases (well_formed s rows) (all_of (text_inside lent) rows) ok).0
