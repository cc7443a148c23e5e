-- The nodes of a table without their texts, rows whose parents stand before them, and places in a filtered list.
use Rattle.std.specs.Prelude.{Bool, true, false, cond, ◌&&◌, ◌⊎◌, ◌≡◌, refl, ℕ, zero, suc, T, length, take}
use mathlib.Core.List.Memᴰ.{append_cases}
use mathlib.Core.List.Memᴰ.{head as here}
use mathlib.Core.List.Memᴰ.{tail as there}
use mathlib.Core.List.{List, [], ◌∷◌, ◌++◌, map, map-append, Memᴰ as In}
use Rattle.std.proofs.Common.{⊎_elim, sym, ap, subst, ◌∙◌}
use Rattle.std.proofs.Math.Option.{Option, none, some}
use Rattle.std.proofs.Math.ListN.{get_elem?}
use Rattle.extract_spec.specs.Cut.{kept}
use Rattle.projection_laws.specs.Documents.{Valid, AllValid}
use Rattle.schema_spec.specs.Names.{Name, Names, has}
use Rattle.schema_spec.specs.Types.{Types}
use Rattle.table_laws.specs.Characters.{no-characters}
use Rattle.table_laws.specs.Fits.{row_fits_lem, rooted}
use Rattle.table_laws.specs.Places.{at_in}
use Rattle.table_spec.specs.Nodes.{Node, top, under, name_of, attach_to, node_at, nodes_from, nodes_of}
use Rattle.table_spec.specs.Rows.{Row, characters_of}
use Rattle.table_spec.specs.Tables.{parent_holds, row_fits, later_rows, well_formed}
use Rattle.text_laws.specs.Tests.{and_cases}
use Rattle.text_spec.specs.Lists.{filter_by}

-- ---- lists
module _ {A B : Type 0} (f : A → B) where
  abbrev pub map_option : Option A → Option B
  map_option none = none
  map_option (some x) = some (f x)

  pub at_map : (xs : List A) (i : ℕ) → get_elem? (map f xs) i ≡ map_option (get_elem? xs i)
  at_map [] i = refl
  at_map (x ∷ xs) zero = refl
  at_map (x ∷ xs) (suc i) = at_map xs i

module _ {A : Type 0} where
  -- an element that passes stands, in the filtered list, at the count of those that pass before it
  pub filtered-at : (k : A → Bool) (xs : List A) (i : ℕ) (p : A) → get_elem? xs i ≡ some p → T (k p)
      → get_elem? (filter_by k xs) (length (filter_by k (take i xs))) ≡ some p
  filtered-at k [] i p e t = e
  filtered-at k (x ∷ xs) zero p e t = pick (k x) refl
    where
      pick : (b : Bool) → k x ≡ b → get_elem? (cond b (x ∷ filter_by k xs) (filter_by k xs)) 0 ≡ some p
      pick true q = e
      pick false q =
          let h : x ≡ p = cc in
          absurd (subst T q (subst (λ (z : A). T (k z)) (sym h) t))
  filtered-at k (x ∷ xs) (suc i) p e t = pick (k x) (filtered-at k xs i p e t)
    where
      pick : (b : Bool) → get_elem? (filter_by k xs) (length (filter_by k (take i xs))) ≡ some p
          → get_elem? (cond b (x ∷ filter_by k xs) (filter_by k xs)) (length (cond b (x ∷ filter_by k (take i xs)) (filter_by k (take i xs)))) ≡ some p
      pick true h = h
      pick false h = h

-- ---- nodes without their texts, which is how tables are tested and cut
abbrev pub bare : Node → Node
bare (top k n) = top k n
bare (under k n w p) = under k n [] (bare p)

pub bare-name : (y : Node) → name_of (bare y) ≡ name_of y
bare-name (top k n) = refl
bare-name (under k n w p) = refl

pub bare-kept : (set : Names) (y : Node) → kept set (bare y) ≡ kept set y
bare-kept set (top k n) = refl
bare-kept set (under k n w p) = ap (λ (b : Bool). has n set && b) (bare-kept set p)

pub bare-attached : (k : ℕ) (n : Name) (u w : List ℕ) → u ≡ [] → (o : Option Node) → attach_to k n u (map_option bare o) ≡ bare (attach_to k n w o)
bare-attached k n u w e none = refl
bare-attached k n u w e (some p) = ap (λ (v : List ℕ). under k n v (bare p)) e

pub bare-node : (lent : List ℕ) (before : List Node) (r : Row) → node_at [] (map bare before) r ≡ bare (node_at lent before r)
bare-node lent before r =
    ap (attach_to r.number r.name (characters_of [] r)) (at_map bare before r.parent)
    ∙ bare-attached r.number r.name (characters_of [] r) (characters_of lent r) (no-characters r) (get_elem? before r.parent)

pub bare-filter : (set : Names) (xs : List Node) → filter_by (kept set) (map bare xs) ≡ map bare (filter_by (kept set) xs)
bare-filter set [] = refl
bare-filter set (x ∷ xs) =
    ap (λ (b : Bool). cond b (bare x ∷ filter_by (kept set) (map bare xs)) (filter_by (kept set) (map bare xs))) (bare-kept set x)
    ∙ pick (kept set x) (bare-filter set xs)
  where
    pick : (b : Bool) → filter_by (kept set) (map bare xs) ≡ map bare (filter_by (kept set) xs)
        → cond b (bare x ∷ filter_by (kept set) (map bare xs)) (filter_by (kept set) (map bare xs)) ≡ map bare (cond b (x ∷ filter_by (kept set) xs) (filter_by (kept set) xs))
    pick true h = ap (λ (l : List Node). bare x ∷ l) h
    pick false h = h

-- ---- rows each of which stands under one of the nodes before it, which holds its name
pub data Grown (s : Types) (lent : List ℕ) : List Node → List Row → Type 0 where
  no_rows : {before : List Node} → Grown s lent before []
  next_row : {before : List Node} {r : Row} {rs : List Row} (p : Node) → get_elem? before r.parent ≡ some p → T (s.holds (name_of p) r.name)
      → Grown s lent (before ++ (node_at lent before r ∷ [])) rs → Grown s lent before (r ∷ rs)

held-under : (s : Types) (k : ℕ) (n : Name) (w : List ℕ) (o : Option Node) → T (parent_holds s (attach_to k n w (map_option bare o))) → (p : Node) × (o ≡ some p) × T (s.holds (name_of p) n)
held-under s k n w none t = absurd t
held-under s k n w (some p) t = (p, refl, subst (λ (m : Name). T (s.holds m n)) (bare-name p) t)

pub later_grown : (s : Types) (lent : List ℕ) (before : List Node) (previous : Node) (rs : List Row) → T (later_rows s (map bare before) previous rs) → Grown s lent before rs
later_grown s lent before previous [] t = no_rows
later_grown s lent before previous (r ∷ rs) t =
    let y = node_at [] (map bare before) r in
    let c = and_cases (row_fits s (map bare before) previous r y) (later_rows s (map bare before ++ (y ∷ [])) y rs) t in
    let f = row_fits_lem s (map bare before) previous r y c.0 in
    let h =
    held-under s r.number r.name (characters_of [] r) (get_elem? before r.parent)
    (subst (λ (o : Option Node). T (parent_holds s (attach_to r.number r.name (characters_of [] r) o))) (at_map bare before r.parent) f.held) in
    let more : map bare before ++ (y ∷ []) ≡ map bare (before ++ (node_at lent before r ∷ [])) =
    ap (λ (z : Node). map bare before ++ (z ∷ [])) (bare-node lent before r) ∙ sym (map-append bare before (node_at lent before r ∷ [])) in
    next_row h.0 h.1 h.2
    (later_grown s lent (before ++ (node_at lent before r ∷ [])) y rs (subst (λ (l : List Node). T (later_rows s l y rs)) more c.1))

-- ---- the nodes of a well-formed table are valid
one-more-valid : (s : Types) (before : List Node) (y : Node) → AllValid s before → Valid s y → AllValid s (before ++ (y ∷ []))
one-more-valid s before y ok v z i = ⊎_elim (ok z) last (append_cases before i)
  where
    last : In z (y ∷ []) → Valid s z
    last (here e) = subst (λ (w : Node). Valid s w) (sym e) v
    last (there j) = elim j [ ]

grown-valid : (s : Types) (lent : List ℕ) (before : List Node) (rs : List Row) → AllValid s before → Grown s lent before rs → AllValid s (nodes_from lent before rs)
grown-valid s lent before [] ok no_rows y i = elim i [ ]
grown-valid s lent before (r ∷ rs) ok (next_row p e h g) y i =
    let v : Valid s (node_at lent before r) =
    subst (λ (o : Option Node). Valid s (attach_to r.number r.name (characters_of lent r) o)) (sym e) (h, ok p (at_in before r.parent p e)) in
    pick v i (grown-valid s lent (before ++ (node_at lent before r ∷ [])) rs (one-more-valid s before (node_at lent before r) ok v) g y)
  where
    pick : Valid s (node_at lent before r) → In y (nodes_from lent before (r ∷ rs)) → (In y (nodes_from lent (before ++ (node_at lent before r ∷ [])) rs) → Valid s y) → Valid s y
    pick v (here q) k = subst (λ (w : Node). Valid s w) (sym q) v
    pick v (there j) k = k j

pub root-grown : (s : Types) (lent : List ℕ) (r : Row) (rs : List Row) → T (well_formed s (r ∷ rs)) → Grown s lent (top r.number r.name ∷ []) rs
root-grown s lent r rs t =
    let y = top r.number r.name in
    later_grown s lent (y ∷ []) y rs (rooted s r rs t).later

pub rows-valid : (s : Types) (lent : List ℕ) (rows : List Row) → T (well_formed s rows) → AllValid s (nodes_of lent rows)
unfolding nodes_of
rows-valid s lent [] t y i = elim i [ ]
rows-valid s lent (r ∷ rs) t y i = pick i
  where
    root : Valid s (top r.number r.name)
    root = ((rooted s r rs t).number, (rooted s r rs t).name)

    first : AllValid s (top r.number r.name ∷ [])
    first z (here e) = subst (λ (w : Node). Valid s w) (sym e) root
    first z (there j) = elim j [ ]

    pick : In y (top r.number r.name ∷ nodes_from lent (top r.number r.name ∷ []) rs) → Valid s y
    pick (here e) = subst (λ (w : Node). Valid s w) (sym e) root
    pick (there j) = grown-valid s lent (top r.number r.name ∷ []) rs first (root-grown s lent r rs t) y j
