-- The nodes of a cut table are the kept nodes of the table, and a cut table is well formed.
use Rattle.std.specs.Prelude.{Bool, true, false, cond, ◌&&◌, ◌||◌, ◌⊎◌, ◌≡◌, refl, ℕ, zero, suc, ◌<◌, ◌≤◌, T, length, take}
use mathlib.Core.List.Memᴰ.{append_cases}
use mathlib.Core.List.Memᴰ.{head as here}
use mathlib.Core.List.Memᴰ.{tail as there}
use mathlib.Core.List.{List, [], ◌∷◌, ◌++◌, map, map-append, Memᴰ as In}
use Rattle.std.proofs.Common.{inl, inr, ⊎_elim, sym, ap, subst, ◌∙◌, arith}
use Rattle.std.proofs.Math.Option.{Option, none, some}
use Rattle.std.proofs.lemmas.List.{length-map}
use Rattle.std.proofs.Math.ListN.{get_elem?}
use Rattle.std.proofs.Math.Seq.{take-nil}
use Rattle.extract_spec.specs.Cut.{kept, renumbered, cut_from, cut}
use Rattle.projection_laws.specs.Rows.{bare, bare-kept, bare-node, bare-filter, filtered-at, Grown, next_row, root-grown}
use Rattle.schema_spec.specs.Names.{Name, Names, element, text, has, is_text}
use Rattle.schema_spec.specs.Types.{Types}
use Rattle.table_laws.specs.Fits.{RowFits, row_fits_lem, fits-row, Rooted, rooted, rooted-fits}
use Rattle.table_laws.specs.Nodes.{nodes-equal, equal-same, test-above, above-test}
use Rattle.table_laws.specs.Places.{at_in}
use Rattle.table_spec.specs.Nodes.{Node, top, under, name_of, node_number, same, Edge, edge, Above, parent, higher, is_above, attach_to, node_at, nodes_from, nodes_of}
use Rattle.table_spec.specs.Rows.{Row, characters_of, with_parent}
use Rattle.table_spec.specs.Tables.{parent_open, parent_holds, same_parent, first_text, text_fits, row_fits, later_rows, well_formed, text_inside, well_formed_with}
use Rattle.text_laws.specs.Lists.{filter-append, filter-in, any-in, in-any}
use Rattle.text_laws.specs.Tests.{or_left, or_right, or_cases, and_intro, and_cases, not-intro, not-elim, passed}
use Rattle.text_spec.specs.Lists.{filter_by, any_of, all_of}

append-nothing : {A : Type 0} (l : List A) → l ++ [] ≡ l
append-nothing [] = refl
append-nothing {A} (x ∷ l) = ap {B = List A} (λ m. x ∷ m) (append-nothing l)

-- a filtered list with one element more
filtered-last : {A : Type 0} (f : A → Bool) (xs : List A) (y : A) (b : Bool) → f y ≡ b → filter_by f (xs ++ (y ∷ [])) ≡ filter_by f xs ++ cond b (y ∷ []) []
filtered-last {A} f xs y b q = filter-append f xs (y ∷ []) ∙ ap (λ (c : Bool). filter_by f xs ++ cond c (y ∷ []) []) q

kept-parent : (set : Names) (k : ℕ) (n : Name) (w : List ℕ) (p : Node) (o : Option Node) → o ≡ some p → T (kept set (attach_to k n w o)) → T (kept set p)
kept-parent set k n w p o e t = (and_cases (has n set) (kept set p) (subst (λ (z : Option Node). T (kept set (attach_to k n w z))) e t)).1

-- the node of a kept row among the kept nodes is its node in the whole table
renumbered-node : (set : Names) (lent : List ℕ) (before : List Node) (r : Row) (p : Node) → get_elem? before r.parent ≡ some p → T (kept set (node_at lent before r))
    → node_at lent (filter_by (kept set) before) (renumbered set before r) ≡ node_at lent before r
renumbered-node set lent before r p e t =
    ap (attach_to r.number r.name (characters_of lent r))
    (filtered-at (kept set) before r.parent p e (kept-parent set r.number r.name (characters_of lent r) p (get_elem? before r.parent) e t) ∙ sym e)

-- a parent's new row is counted alike with texts and without
take-map : {A B : Type 0} (f : A → B) (i : ℕ) (xs : List A) → take i (map f xs) ≡ map f (take i xs)
take-map f zero xs = refl
take-map {A} {B} f (suc i) [] = refl
take-map {A} {B} f (suc i) (x ∷ xs) = ap {B = List B} (λ l. f x ∷ l) (take-map f i xs)

bare-count : (set : Names) (i : ℕ) (before : List Node) → length (filter_by (kept set) (take i (map bare before))) ≡ length (filter_by (kept set) (take i before))
bare-count set i before =
    ap (λ (l : List Node). length (filter_by (kept set) l)) (take-map bare i before)
    ∙ (ap length (bare-filter set (take i before)) ∙ length-map (filter_by (kept set) (take i before)) bare)

bare-renumbered : (set : Names) (before : List Node) (r : Row) → renumbered set (map bare before) r ≡ renumbered set before r
bare-renumbered set before r =
    ap (λ (i : ℕ). with_parent i r) (bare-count set r.parent before)

-- ---- the nodes of the cut rows are the kept nodes
nodes-cut : (s : Types) (set : Names) (lent : List ℕ) (before : List Node) (rs : List Row) → Grown s lent before rs
    → nodes_from lent (filter_by (kept set) before) (cut_from set (map bare before) rs) ≡ filter_by (kept set) (nodes_from lent before rs)
nodes-cut s set lent before [] g = refl
nodes-cut s set lent before (r ∷ rs) (next_row p e h g) =
    ap (λ (z : Node). nodes_from lent kepts (cond (kept set z) (renumbered set (map bare before) r ∷ cut_from set (map bare before ++ (z ∷ [])) rs) (cut_from set (map bare before ++ (z ∷ [])) rs)))
    (bare-node lent before r)
    ∙ (ap (λ (b : Bool). nodes_from lent kepts (cond b (renumbered set (map bare before) r ∷ later) later)) (bare-kept set y)
    ∙ (ap (λ (q : Row). nodes_from lent kepts (cond (kept set y) (q ∷ later) later)) (bare-renumbered set before r)
    ∙ (ap (λ (l : List Node). nodes_from lent kepts (cond (kept set y) (renumbered set before r ∷ cut_from set l rs) (cut_from set l rs))) (sym (map-append bare before (y ∷ [])))
    ∙ pick (kept set y) refl (nodes-cut s set lent (before ++ (y ∷ [])) rs g))))
  where
    y : Node
    y = node_at lent before r

    kepts : List Node
    kepts = filter_by (kept set) before

    later : List Row
    later = cut_from set (map bare before ++ (bare y ∷ [])) rs

    rest : List Row
    rest = cut_from set (map bare (before ++ (y ∷ []))) rs

    onward : List Node
    onward = filter_by (kept set) (nodes_from lent (before ++ (y ∷ [])) rs)

    pick : (b : Bool) → kept set y ≡ b → nodes_from lent (filter_by (kept set) (before ++ (y ∷ []))) rest ≡ onward
        → nodes_from lent kepts (cond b (renumbered set before r ∷ rest) rest) ≡ cond b (y ∷ onward) onward
    pick true q ih =
        let m : node_at lent kepts (renumbered set before r) ≡ y = renumbered-node set lent before r p e (passed q) in
        ap (λ (z : Node). z ∷ nodes_from lent (kepts ++ (z ∷ [])) rest) m
        ∙ (ap (λ (l : List Node). y ∷ nodes_from lent l rest) (sym (filtered-last (kept set) before y true q)) ∙ ap (λ (l : List Node). y ∷ l) ih)
    pick false q ih =
        ap (λ (l : List Node). nodes_from lent l rest) (sym (append-nothing kepts) ∙ sym (filtered-last (kept set) before y false q)) ∙ ih

pub rows_cut : (s : Types) (set : Names) (lent : List ℕ) (rows : List Row) → T (well_formed s rows) → nodes_of lent (cut set rows) ≡ filter_by (kept set) (nodes_of lent rows)
unfolding nodes_of cut
rows_cut s set lent [] t = refl
rows_cut s set lent (r ∷ rs) t = pick (has r.name set) (nodes-cut s set lent (root ∷ []) rs (root-grown s lent r rs t))
  where
    root : Node
    root = top r.number r.name

    rest : List Row
    rest = cut_from set (root ∷ []) rs

    onward : List Node
    onward = filter_by (kept set) (nodes_from lent (root ∷ []) rs)

    pick : (b : Bool) → nodes_from lent (cond b (root ∷ []) []) rest ≡ onward
        → nodes_from lent [] (cond b (renumbered set [] r ∷ rest) rest) ≡ cond b (root ∷ onward) onward
    pick true h = ap (λ (l : List Node). root ∷ l) h
    pick false h = h

-- ---- a cut table is well formed
-- p is x or above it
abbrev OpenAt : Node → Node → Type 0
OpenAt p x = (p ≡ x) ⊎ Above p x

open-under : {p q : Node} (k : ℕ) (n : Name) (w : List ℕ) → OpenAt p q → Above p (under k n w q)
open-under {q = q} k n w (inl e) = parent (subst (λ (z : Node). Edge z (under k n w q)) (sym e) edge)
open-under k n w (inr a) = higher a edge

above-under : {p q : Node} {k : ℕ} {n : Name} {w : List ℕ} → Above p (under k n w q) → OpenAt p q
above-under (parent edge) = inl refl
above-under (higher a edge) = inr a

above_join : {p q x : Node} → Above p q → Above q x → Above p x
above_join a (parent e) = higher a e
above_join a (higher b e) = higher (above_join a b) e

open-join : {p q x : Node} → OpenAt p q → OpenAt q x → OpenAt p x
open-join {x = x} (inl e) o = subst (λ (z : Node). OpenAt z x) (sym e) o
open-join {p} (inr a) (inl e) = inr (subst (λ (z : Node). Above p z) e a)
open-join (inr a) (inr b) = inr (above_join a b)

test-open : (p x : Node) → T (same p x || is_above p x) → OpenAt p x
test-open p x t = ⊎_elim (λ h. inl (nodes-equal p x h)) (λ h. inr (test-above p x h)) (or_cases (same p x) (is_above p x) t)

open-test : (p x : Node) → OpenAt p x → T (same p x || is_above p x)
open-test p x (inl e) = or_left (same p x) (is_above p x) (equal-same e)
open-test p x (inr a) = or_right (same p x) (is_above p x) (above-test a)

-- a node under another, as the parts of its row's test see it
under_of : (k : ℕ) (n : Name) (w : List ℕ) (s : Types) (o : Option Node) → T (parent_holds s (attach_to k n w o)) → (p : Node) × (o ≡ some p)
under_of k n w s none t = absurd t
under_of k n w s (some p) t = (p, refl)

-- the first text of its parent among more nodes is so among fewer
first-among : (f : Node → Bool) (before : List Node) (y : Node) → T (first_text before y) → T (first_text (filter_by f before) y)
first-among f before y t =
    not-intro (is_text (name_of y) && any_of other (filter_by f before))
    (λ h.
    let a = and_cases (is_text (name_of y)) (any_of other (filter_by f before)) h in
    let z = in-any other (filter_by f before) a.1 in
    not-elim (is_text (name_of y) && any_of other before) t
    (and_intro (is_text (name_of y)) (any_of other before) a.0 (any-in other (filter-in f before z.1).0 z.2)))
  where
    other : Node → Bool
    other z = is_text (name_of z) && same_parent z y

-- a row's text cells do not change when its parent is renumbered
renumbered-cells : (set : Names) (before : List Node) (r : Row) (n : Name) → T (text_fits n r) → T (text_fits n (renumbered set before r))
renumbered-cells set before r (element e) t = t
renumbered-cells set before r (text e) t = t

-- Every kept node that is open at the last row is open at the last kept row.
cut_later : (s : Types) (set : Names) (before : List Node) (previous last : Node) (rs : List Row)
    → ((p : Node) → T (kept set p) → OpenAt p previous → OpenAt p last) → node_number last ≤ node_number previous
    → T (later_rows s before previous rs) → T (later_rows s (filter_by (kept set) before) last (cut_from set before rs))
cut_later s set before previous last [] inv le t = tt
cut_later s set before previous last (r ∷ rs) inv le t =
    pick (kept set y) refl (cut_later s set (before ++ (y ∷ [])) y y rs (λ p k o. o) (omega arith) c.1)
    (λ q. cut_later s set (before ++ (y ∷ [])) y last rs (still q) (omega (arith, rising, number-y)) c.1)
  where
    y : Node
    y = node_at [] before r

    c : T (row_fits s before previous r y) × T (later_rows s (before ++ (y ∷ [])) y rs)
    c = and_cases (row_fits s before previous r y) (later_rows s (before ++ (y ∷ [])) y rs) t

    f : RowFits s before previous r y
    f = row_fits_lem s before previous r y c.0

    h : (p : Node) × (get_elem? before r.parent ≡ some p)
    h = under_of r.number r.name (characters_of [] r) s (get_elem? before r.parent) f.held

    e : y ≡ under r.number r.name (characters_of [] r) h.0
    e = ap (attach_to r.number r.name (characters_of [] r)) h.1

    opened : OpenAt h.0 previous
    opened = test-open h.0 previous (subst (λ (z : Node). T (parent_open previous z)) e f.is_open)

    number-y : node_number y ≡ r.number
    number-y = ap node_number e

    rising : node_number previous < r.number
    rising = f.rises

    -- the row is dropped: what is kept and open at its node is open at the row before
    still : kept set y ≡ false → (p : Node) → T (kept set p) → OpenAt p y → OpenAt p last
    still q p k (inl i) = absurd (subst T q (subst (λ (z : Node). T (kept set z)) i k))
    still q p k (inr a) = inv p k (open-join (above-under (subst (λ (z : Node). Above p z) e a)) opened)

    rest : List Row
    rest = cut_from set (before ++ (y ∷ [])) rs

    pick : (b : Bool) → kept set y ≡ b → T (later_rows s (filter_by (kept set) (before ++ (y ∷ []))) y rest)
        → (kept set y ≡ false → T (later_rows s (filter_by (kept set) (before ++ (y ∷ []))) last rest))
        → T (later_rows s (filter_by (kept set) before) last (cond b (renumbered set before r ∷ rest) rest))
    pick true q ih dropped =
        let k = filter_by (kept set) before in
        let m : node_at [] k (renumbered set before r) ≡ y = renumbered-node set [] before r h.0 h.1 (passed q) in
        subst (λ (z : Node). T (row_fits s k last (renumbered set before r) z && later_rows s (k ++ (z ∷ [])) z rest)) (sym m)
        (and_intro (row_fits s k last (renumbered set before r) y) (later_rows s (k ++ (y ∷ [])) y rest) (fits q)
        (subst (λ (l : List Node). T (later_rows s l y rest)) (filtered-last (kept set) before y true q) ih))
      where
        fits : kept set y ≡ true → T (row_fits s (filter_by (kept set) before) last (renumbered set before r) y)
        fits q =
            let pk : T (kept set h.0) = kept-parent set r.number r.name (characters_of [] r) h.0 (get_elem? before r.parent) h.1 (passed q) in
            let po : T (parent_open last y) = subst (λ (z : Node). T (parent_open last z)) (sym e) (open-test h.0 last (inv h.0 pk opened)) in
            fits-row s (filter_by (kept set) before) last (renumbered set before r) y
            (record {
              rises = omega (arith, rising);
              small = f.small;
              is_open = po;
              held = f.held;
              shallow = f.shallow;
              one_text = first-among (kept set) before y f.one_text;
              cells = renumbered-cells set before r r.name f.cells;
            })
    pick false q ih dropped =
        subst (λ (l : List Node). T (later_rows s l last rest)) (filtered-last (kept set) before y false q ∙ append-nothing (filter_by (kept set) before)) (dropped q)

-- where no node is kept, no row is
none_kept : (s : Types) (set : Names) (before : List Node) (rs : List Row) → ((z : Node) → In z before → T (kept set z) → ⊥) → Grown s [] before rs → cut_from set before rs ≡ []
none_kept s set before [] nowhere g = refl
none_kept s set before (r ∷ rs) nowhere (next_row p e h g) = pick (kept set y) refl (none_kept s set (before ++ (y ∷ [])) rs more g)
  where
    y : Node
    y = node_at [] before r

    not-y : T (kept set y) → ⊥
    not-y t = nowhere p (at_in before r.parent p e) (kept-parent set r.number r.name (characters_of [] r) p (get_elem? before r.parent) e t)

    more : (z : Node) → In z (before ++ (y ∷ [])) → T (kept set z) → ⊥
    more z i t = ⊎_elim (λ j. nowhere z j t) last (append_cases before i)
      where
        last : In z (y ∷ []) → ⊥
        last (here q) = not-y (subst (λ (w : Node). T (kept set w)) q t)
        last (there j) = elim j [ ]

    pick : (b : Bool) → kept set y ≡ b → cut_from set (before ++ (y ∷ [])) rs ≡ []
        → cond b (renumbered set before r ∷ cut_from set (before ++ (y ∷ [])) rs) (cut_from set (before ++ (y ∷ [])) rs) ≡ []
    pick true q k = absurd (not-y (passed q))
    pick false q k = k

pub cut-well-formed : (s : Types) (set : Names) (rows : List Row) → T (well_formed s rows) → T (well_formed s (cut set rows))
unfolding well_formed cut
cut-well-formed s set [] t = tt
cut-well-formed s set (r ∷ rs) t = pick (has r.name set) refl
  where
    root : Node
    root = top r.number r.name

    w : Rooted s r rs
    w = rooted s r rs t

    rest : List Row
    rest = cut_from set (root ∷ []) rs

    pick : (b : Bool) → has r.name set ≡ b → T (well_formed s (cond b (renumbered set [] r ∷ rest) rest))
    pick true q =
        rooted-fits s (renumbered set [] r) rest
        (record {
          number = w.number;
          name = w.name;
          parent = ap (λ (l : List Node). length (filter_by (kept set) l)) (take-nil r.parent);
          cells = renumbered-cells set [] r r.name w.cells;
          later = subst (λ (z : Bool). T (later_rows s (cond z (root ∷ []) []) root rest)) q (cut_later s set (root ∷ []) root root rs (λ p k o. o) (omega arith) w.later);
        })
    pick false q = subst (λ (l : List Row). T (well_formed s l)) (sym (none_kept s set (root ∷ []) rs nowhere (root-grown s [] r rs t))) tt
      where
        nowhere : (z : Node) → In z (root ∷ []) → T (kept set z) → ⊥
        nowhere z (here e) k = subst T q (subst (λ (x : Node). T (kept set x)) e k)
        nowhere z (there j) k = elim j [ ]

-- the rows of a cut are rows of the table but for their parents
cut-texts : (set : Names) (lent : List ℕ) (before : List Node) (rs : List Row) → T (all_of (text_inside lent) rs) → T (all_of (text_inside lent) (cut_from set before rs))
cut-texts set lent before [] t = tt
cut-texts set lent before (r ∷ rs) t =
    let c = and_cases (text_inside lent r) (all_of (text_inside lent) rs) t in
    pick (kept set (node_at [] before r)) c.0 (cut-texts set lent (before ++ (node_at [] before r ∷ [])) rs c.1)
  where
    rest : List Row
    rest = cut_from set (before ++ (node_at [] before r ∷ [])) rs

    pick : (b : Bool) → T (text_inside lent r) → T (all_of (text_inside lent) rest) → T (all_of (text_inside lent) (cond b (renumbered set before r ∷ rest) rest))
    pick true u v = and_intro (text_inside lent r) (all_of (text_inside lent) rest) u v
    pick false u v = v

pub cut-well-formed-with : (s : Types) (set : Names) (lent : List ℕ) (rows : List Row) → T (well_formed_with s lent rows) → T (well_formed_with s lent (cut set rows))
unfolding well_formed_with cut
cut-well-formed-with s set lent rows t =
    let c = and_cases (well_formed s rows) (all_of (text_inside lent) rows) t in
    and_intro (well_formed s (cut set rows)) (all_of (text_inside lent) (cut set rows)) (cut-well-formed s set rows c.0) (cut-texts set lent [] rows c.1)
