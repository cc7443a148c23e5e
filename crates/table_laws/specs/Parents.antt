-- The nodes of a well-formed table, by the column of its rows' parents, whatever text is lent.
use Rattle.std.specs.Prelude.{List, [], ◌∷◌, ◌++◌, map, ◌⊎◌, ◌≡◌, refl, ℕ, zero, suc, ◌+◌, ◌-◌, ◌<◌, ◌≤◌, T, length, get_or}
use Rattle.std.proofs.Common.{append_assoc, ⊎_elim, sym, ap, subst, ◌∙◌, eq-or-lt_of_le, arith, length-append}
use Rattle.std.proofs.Math.Option.{Option, none, some}
use Rattle.std.proofs.Math.ListN.{get_elem?}
use Rattle.std.proofs.lemmas.List.{length-map, get_or_at}
use Rattle.schema_spec.specs.Names.{Name}
use Rattle.schema_spec.specs.Types.{Types}
use Rattle.table_laws.specs.Fits.{attached-number, row_fits_lem, fitting, rooted}
use Rattle.table_laws.specs.Places.{at_before, at-end, at_bound, at_some}
use Rattle.table_laws.specs.WellFormed.{table-means}
use Rattle.table_spec.specs.Conditions.{RowAbove, parent, higher, WellFormed}
use Rattle.table_spec.specs.Nodes.{Node, top, under, node_number, name_of, is_top, attach_to, node_at, nodes_from, nodes_of}
use Rattle.table_spec.specs.Rows.{Row, characters_of}
use Rattle.table_spec.specs.Tables.{row_fits, later_rows, well_formed}
use Rattle.text_laws.specs.Tests.{and_cases}

-- ---- numbers and names of the nodes are those of the rows
attached-name : (k : ℕ) (n : Name) (w : List ℕ) (p : Option Node) → name_of (attach_to k n w p) ≡ n
attached-name k n w none = refl
attached-name k n w (some p) = refl

module _ {A : Type 0} (f : Node → A) (g : Row → A) (kept : (lent : List ℕ) (before : List Node) (r : Row) → f (node_at lent before r) ≡ g r) where
  nodes-from : (lent : List ℕ) (before : List Node) (rows : List Row) → map f (nodes_from lent before rows) ≡ map g rows
  nodes-from lent before [] = refl
  nodes-from lent before (r ∷ rows) =
      let y = node_at lent before r in
      ap (λ (k : A). k ∷ map f (nodes_from lent (before ++ (y ∷ [])) rows)) (kept lent before r) ∙ ap (λ (l : List A). g r ∷ l) (nodes-from lent (before ++ (y ∷ [])) rows)

pub nodes-numbered : (lent : List ℕ) (rows : List Row) → map node_number (nodes_of lent rows) ≡ map (λ r. r.number) rows
unfolding nodes_of
nodes-numbered lent rows =
    nodes-from node_number (λ r. r.number) (λ u before r. attached-number r.number r.name (characters_of u r) (get_elem? before r.parent)) lent [] rows

pub nodes-named : (lent : List ℕ) (rows : List Row) → map name_of (nodes_of lent rows) ≡ map (λ r. r.name) rows
unfolding nodes_of
nodes-named lent rows =
    nodes-from name_of (λ r. r.name) (λ u before r. attached-name r.number r.name (characters_of u r) (get_elem? before r.parent)) lent [] rows

-- ---- nodes by their rows
-- a column in which each later row's parent stands before the row
abbrev pub ParentsBefore : List ℕ → Type 0
ParentsBefore ps = (r : ℕ) → 0 < r → r < length ps → get_or ps r 0 < r

-- row a is row r or above it, by a column of parents; nothing is above row 0
pub data AtOrAbove (ps : List ℕ) (a : ℕ) : ℕ → Type 0 where
  at_row : AtOrAbove ps a a
  above-row : {r : ℕ} → 0 < r → AtOrAbove ps a (get_or ps r 0) → AtOrAbove ps a r

-- a column in which "each later parent is the row before or one above that"
abbrev pub ParentsOpen : List ℕ → Type 0
ParentsOpen ps = (i : ℕ) → suc i < length ps → AtOrAbove ps (get_or ps (suc i) 0) i

abbrev pub NodeAt : List Node → ℕ → Node → Type 0
NodeAt doc r y = get_elem? doc r ≡ some y

-- a node whose parent stands at row p
pub data ChildOf (doc : List Node) (p : ℕ) : Node → Type 0 where
  child-of : {k : ℕ} {n : Name} {w : List ℕ} {x : Node} → NodeAt doc p x → ChildOf doc p (under k n w x)

pub record Placed (ps : List ℕ) (doc : List Node) : Type 0 where
  pub size : length doc ≡ length ps
  pub before : ParentsBefore ps
  pub opens : ParentsOpen ps
  pub root : (y : Node) → NodeAt doc 0 y → T (is_top y)
  pub later : (r : ℕ) (y : Node) → 0 < r → NodeAt doc r y → ChildOf doc (get_or ps r 0) y
  pub rises : (q r : ℕ) (x y : Node) → NodeAt doc q x → NodeAt doc r y → q < r → node_number x < node_number y

-- no node stands twice
pub node-once : (ps : List ℕ) (doc : List Node) → Placed ps doc → (q r : ℕ) (x : Node) → NodeAt doc q x → NodeAt doc r x → q ≡ r
node-once ps doc tree q r x a b =
    let left : q < r → ⊥ = λ l. omega (arith, tree.rises q r x x a b l) in
    let right : r < q → ⊥ = λ l. omega (arith, tree.rises r q x x b a l) in
    omega arith

-- ---- each row's parent is one of the k rows before it
data Grows : ℕ → List Row → Type 0 where
  no_rows : {k : ℕ} → Grows k []
  next_row : {k : ℕ} {r : Row} {rs : List Row} → r.parent < k → Grows (suc k) rs → Grows k (r ∷ rs)

one-longer : (xs : List Node) (y : Node) → length (xs ++ (y ∷ [])) ≡ suc (length xs)
one-longer xs y = omega (arith, length-append xs (y ∷ []))

later-grows : (s : Types) (before : List Node) (previous : Node) (rs : List Row) → T (later_rows s before previous rs) → Grows (length before) rs
later-grows s before previous [] t = no_rows
later-grows s before previous (r ∷ rs) t =
    let y = node_at [] before r in
    let c = and_cases (row_fits s before previous r y) (later_rows s (before ++ (y ∷ [])) y rs) t in
    let f = fitting s before previous r (row_fits_lem s before previous r y c.0) in
    next_row (at_bound before r.parent f.parent f.parent_at)
    (subst (λ (k : ℕ). Grows k rs) (one-longer before y) (later-grows s (before ++ (y ∷ [])) y rs c.1))

grows-before : {k : ℕ} {rs : List Row} → Grows k rs → (i : ℕ) → i < length rs → get_or (map (λ r. r.parent) rs) i 0 < k + i
grows-before no_rows i l = absurd (omega arith)
grows-before (next_row h g) zero l = omega arith
grows-before (next_row h g) (suc i) l = omega (arith, grows-before g i (omega arith))

-- ---- the nodes made of them
nodes-length : (lent : List ℕ) (before : List Node) (rs : List Row) → length (nodes_from lent before rs) ≡ length rs
nodes-length lent before [] = refl
nodes-length lent before (r ∷ rs) = ap suc (nodes-length lent (before ++ (node_at lent before r ∷ [])) rs)

module _ (lent : List ℕ) where
  nodes-later : (before : List Node) (front : List ℕ) (rs : List Row) → length front ≡ length before → Grows (length before) rs
      → (r : ℕ) (y : Node) → length before ≤ r → NodeAt (before ++ nodes_from lent before rs) r y
      → ChildOf (before ++ nodes_from lent before rs) (get_or (front ++ map (λ q. q.parent) rs) r 0) y
  nodes-later before front [] e g r y l a = absurd (omega (arith, at_bound (before ++ []) r y a, length-append before []))
  nodes-later before front (q ∷ rs) e (next_row h g) r y l a =
      ⊎_elim this (after (λ f m b c. nodes-later (before ++ (node_at lent before q ∷ [])) (front ++ (q.parent ∷ [])) rs f m r y b c)) (eq-or-lt_of_le l)
    where
      z : Node
      z = node_at lent before q

      rest : List Node
      rest = nodes_from lent (before ++ (z ∷ [])) rs

      this : length before ≡ r → ChildOf (before ++ (z ∷ rest)) (get_or (front ++ (q.parent ∷ map (λ q. q.parent) rs)) r 0) y
      this d =
          let p = at_some before q.parent h in
          let is : z ≡ under q.number q.name (characters_of lent q) p.0 = ap (attach_to q.number q.name (characters_of lent q)) p.1 in
          let c : get_elem? (before ++ (z ∷ rest)) r ≡ some z = ap (get_elem? (before ++ (z ∷ rest))) (sym d) ∙ at-end before z rest in
          let o : y ≡ z = cc in
          let w : get_or (front ++ (q.parent ∷ map (λ q. q.parent) rs)) r 0 ≡ q.parent = get_or_at front q.parent (map (λ q. q.parent) rs) 0 r (e ∙ d) in
          rw (w, o ∙ is) (child-of (at_before before (z ∷ rest) q.parent p.0 p.1))

      after : (length (front ++ (q.parent ∷ [])) ≡ length (before ++ (z ∷ [])) → Grows (length (before ++ (z ∷ []))) rs → length (before ++ (z ∷ [])) ≤ r
          → NodeAt ((before ++ (z ∷ [])) ++ rest) r y → ChildOf ((before ++ (z ∷ [])) ++ rest) (get_or ((front ++ (q.parent ∷ [])) ++ map (λ q. q.parent) rs) r 0) y)
          → length before < r → ChildOf (before ++ (z ∷ rest)) (get_or (front ++ (q.parent ∷ map (λ q. q.parent) rs)) r 0) y
      after more b =
          let u : (before ++ (z ∷ [])) ++ rest ≡ before ++ (z ∷ rest) = append_assoc before (z ∷ []) rest in
          let v : (front ++ (q.parent ∷ [])) ++ map (λ q. q.parent) rs ≡ front ++ (q.parent ∷ map (λ q. q.parent) rs) = append_assoc front (q.parent ∷ []) (map (λ q. q.parent) rs) in
          let k : length (before ++ (z ∷ [])) ≡ suc (length before) = one-longer before z in
          let f : length (front ++ (q.parent ∷ [])) ≡ length (before ++ (z ∷ [])) = omega (arith, length-append front (q.parent ∷ [])) in
          let i = more f (subst (λ (m : ℕ). Grows m rs) (sym k) g) (omega arith) (subst (λ (d : List Node). NodeAt d r y) (sym u) a) in
          subst (λ (d : List Node). ChildOf d (get_or (front ++ (q.parent ∷ map (λ q. q.parent) rs)) r 0) y) u
          (subst (λ (c : List ℕ). ChildOf ((before ++ (z ∷ [])) ++ rest) (get_or c r 0) y) v i)

-- ---- numbers rise, and parents are open
get_d_of : {A : Type 0} (f : A → ℕ) (xs : List A) (i : ℕ) (x : A) → get_elem? xs i ≡ some x → get_or (map f xs) i 0 ≡ f x
get_d_of f [] i x e = absurd (omega (arith, at_bound [] i x e))
get_d_of {A} f (a ∷ xs) zero x e = let h : a ≡ x = cc in ap f h
get_d_of f (a ∷ xs) (suc i) x e = get_d_of f xs i x e

abbrev numbers : List Row → List ℕ
numbers rows = map (λ r. r.number) rows

rise-once : (s : Types) (rows : List Row) → WellFormed s rows → (i : ℕ) → suc i < length rows → get_or (numbers rows) i 0 < get_or (numbers rows) (suc i) 0
rise-once s rows w i l =
    let q = at_some rows i (omega arith) in
    let r = at_some rows (suc i) l in
    rw (get_d_of (λ z. z.number) rows i q.0 q.1, get_d_of (λ z. z.number) rows (suc i) r.0 r.1) (w.later_row i q.0 r.0 q.1 r.1).rises

rise-far : (s : Types) (rows : List Row) → WellFormed s rows → (i d : ℕ) → suc (i + d) < length rows → get_or (numbers rows) i 0 < get_or (numbers rows) (suc (i + d)) 0
rise-far s rows w i zero l = subst (λ (k : ℕ). get_or (numbers rows) i 0 < get_or (numbers rows) (suc k) 0) (omega arith) (rise-once s rows w i (omega arith))
rise-far s rows w i (suc d) l =
    let a = rise-far s rows w i d (omega arith) in
    let b = rise-once s rows w (suc (i + d)) (omega arith) in
    let e : suc (suc (i + d)) ≡ suc (i + suc d) = omega arith in
    subst (λ (k : ℕ). get_or (numbers rows) i 0 < get_or (numbers rows) k 0) e (omega arith)

-- a row above another by the rows' parents is above it by their column
row-column : (rows : List Row) {p i : ℕ} → RowAbove rows p i → AtOrAbove (map (λ r. r.parent) rows) p i
row-column rows (parent {i = i} {r = r} a) =
    above-row {r = suc i} (omega arith) (subst (AtOrAbove (map (λ q. q.parent) rows) r.parent) (sym (get_d_of (λ q. q.parent) rows (suc i) r a)) at_row)
row-column rows (higher {p = p} {i = i} {r = r} a h) =
    above-row {r = suc i} (omega arith) (subst (AtOrAbove (map (λ q. q.parent) rows) p) (sym (get_d_of (λ q. q.parent) rows (suc i) r a)) (row-column rows h))

parents-open : (s : Types) (rows : List Row) → WellFormed s rows → ParentsOpen (map (λ r. r.parent) rows)
parents-open s rows w i l =
    let b : suc i < length rows = omega (arith, length-map rows (λ r. r.parent)) in
    let q = at_some rows i (omega arith) in
    let r = at_some rows (suc i) b in
    subst (λ (k : ℕ). AtOrAbove (map (λ z. z.parent) rows) k i) (sym (get_d_of (λ z. z.parent) rows (suc i) r.0 r.1))
    (⊎_elim (λ e. subst (AtOrAbove (map (λ z. z.parent) rows) r.0.parent) e at_row) (row-column rows) (w.later_row i q.0 r.0 q.1 r.1).parent_open)

-- ---- the nodes of a table
pub nodes-placed : (s : Types) (lent : List ℕ) (rows : List Row) → T (well_formed s rows) → Placed (map (λ r. r.parent) rows) (nodes_of lent rows)
unfolding nodes_of
nodes-placed s lent [] t =
    record {
      size = refl;
      before = λ r p l. absurd (omega arith);
      opens = λ i l. absurd (omega arith);
      root = λ y a. absurd (omega (arith, at_bound [] 0 y a));
      later = λ r y p a. absurd (omega (arith, at_bound [] r y a));
      rises = λ q r x y a b l. absurd (omega (arith, at_bound [] q x a));
    }
nodes-placed s lent (x ∷ rs) t =
    record {
      size = long;
      before = first;
      opens = parents-open s (x ∷ rs) (table-means s (x ∷ rs) t);
      root = λ y a. (let h : y ≡ top x.number x.name = cc in rw h tt);
      later = under_parent;
      rises = numbers-rise;
    }
  where
    doc : List Node
    doc = nodes_from lent [] (x ∷ rs)

    g : Grows 1 rs
    g = later-grows s (top x.number x.name ∷ []) (top x.number x.name) rs (rooted s x rs t).later

    long : length doc ≡ length (map (λ r. r.parent) (x ∷ rs))
    long = nodes-length lent [] (x ∷ rs) ∙ sym (length-map (x ∷ rs) (λ r. r.parent))

    first : ParentsBefore (map (λ r. r.parent) (x ∷ rs))
    first zero p l = absurd (omega arith)
    first (suc r) p l = omega (arith, grows-before g r (omega (arith, length-map rs (λ r. r.parent))))

    under_parent : (r : ℕ) (y : Node) → 0 < r → NodeAt doc r y → ChildOf doc (get_or (map (λ r. r.parent) (x ∷ rs)) r 0) y
    under_parent r y p a = nodes-later lent (top x.number x.name ∷ []) (x.parent ∷ []) rs refl g r y p a

    number_at : (r : ℕ) (y : Node) → NodeAt doc r y → get_or (numbers (x ∷ rs)) r 0 ≡ node_number y
    number_at r y a = ap (λ (k : List ℕ). get_or k r 0) (sym (nodes-numbered lent (x ∷ rs))) ∙ get_d_of node_number doc r y a

    numbers-rise : (q r : ℕ) (y z : Node) → NodeAt doc q y → NodeAt doc r z → q < r → node_number y < node_number z
    numbers-rise q r y z a b l =
        let w = table-means s (x ∷ rs) t in
        let e : suc (q + (r - suc q)) ≡ r = omega arith in
        let bound : r < length (x ∷ rs) = omega (arith, at_bound doc r z b, nodes-length lent [] (x ∷ rs)) in
        let far = rise-far s (x ∷ rs) w q (r - suc q) (omega arith) in
        omega (arith, subst (λ (k : ℕ). get_or (numbers (x ∷ rs)) q 0 < get_or (numbers (x ∷ rs)) k 0) e far, number_at q y a, number_at r z b)
