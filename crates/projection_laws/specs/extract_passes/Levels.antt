-- The open elements as they are carried: each is a node on the line of the row before, found by its number, and holds the next one.
use Rattle.std.specs.Prelude.{Bool, true, false, cond, ◌||◌, List, [], ◌∷◌, ◌⊎◌, ◌≡◌, refl, ℕ, suc, ◌≤◌, T, eqb, length}
use Rattle.std.proofs.Common.{inl, inr, ⊎_elim, ap, subst, arith}
use Rattle.std.proofs.Math.Option.{some}
use Rattle.std.proofs.Math.ListN.{get_elem?}
use Rattle.extract_spec.specs.Reading.{Placed, open_from}
use Rattle.projection_laws.specs.Opens.{Opens, open-root, open-element, open-text}
use Rattle.schema_spec.specs.Names.{element}
use Rattle.schema_spec.specs.Types.{Types}
use Rattle.table_laws.specs.Nodes.{nodes-same}
use Rattle.table_spec.specs.Nodes.{Node, top, under, name_of, same, is_above, depth_of}
use Rattle.text_laws.specs.Tests.{never, or_left, or_right}

-- the node of a level that was found: it is the node y or above it
pub record FoundLevel (before : List Node) (y : Node) (q : Placed) (qs : List Placed) : Type 0 where
  pub node : Node
  pub is_at : get_elem? before q.row ≡ some node
  pub name : name_of node ≡ element q.element
  pub opens : Opens before node (q ∷ qs)
  pub on_line : T (same node y || is_above node y)

-- found here, or further up
found-either : {before : List Node} {y : Node} (here : Placed) (os : List Placed) (b : Bool) (q : Placed) (qs : List Placed) (k : ℕ)
    → cond b (here ∷ os) (open_from k os) ≡ q ∷ qs → FoundLevel before y here os → (open_from k os ≡ q ∷ qs → FoundLevel before y q qs) → FoundLevel before y q qs
found-either {before} {y} here os true q qs k e f g =
    let a : here ≡ q = cc in
    let b : os ≡ qs = cc in
    subst (λ (z : Placed). FoundLevel before y z qs) a (subst (λ (zs : List Placed). FoundLevel before y here zs) b f)
found-either here os false q qs k e f g = g e

higher-found : {before : List Node} (y : Node) (k : ℕ) (n : _) (w : List ℕ) {q : Placed} {qs : List Placed} → FoundLevel before y q qs → FoundLevel before (under k n w y) q qs
higher-found y k n w f =
    let z = f.node in
    record { node = z; is_at = f.is_at; name = f.name; opens = f.opens; on_line = or_right (same z (under k n w y)) (same z y || is_above z y) f.on_line }

pub found-level : {before : List Node} {y : Node} {os : List Placed} → Opens before y os → (k : ℕ) (q : Placed) (qs : List Placed) → open_from k os ≡ q ∷ qs → FoundLevel before y q qs
found-level (open-root {k = n} {e = e} g) k q qs f =
    let y = top n (element e) in
    found-either _ [] (eqb n k) q qs k f (record { node = y; is_at = g; name = refl; opens = open-root g; on_line = or_left (same y y) (is_above y y) (nodes-same y) }) (λ h. never (cc))
found-level (open-element {k = n} {e = e} {w = w} {p = p} {os = os} g h o) k q qs f =
    let y = under n (element e) w p in
    found-either _ os (eqb n k) q qs k f (record { node = y; is_at = g; name = refl; opens = open-element g h o; on_line = or_left (same y y) (is_above y y) (nodes-same y) })
    (λ u. higher-found p n (element e) w (found-level o k q qs u))
found-level (open-text {k = n} {e = e} {w = w} {p = p} h o) k q qs f = higher-found p n _ w (found-level o k q qs f)

-- as many levels as the depth
pub levels-depth : {before : List Node} {y : Node} {os : List Placed} → Opens before y os → depth_of y ≡ length os
levels-depth (open-root g) = refl
levels-depth (open-element g h o) = ap suc (levels-depth o)
levels-depth (open-text h o) = levels-depth o

pub found-few : (k : ℕ) (os : List Placed) → length (open_from k os) ≤ length os
found-few k [] = omega arith
found-few k (o ∷ os) = by (eqb o.number k) (found-few k os)
  where
    by : (b : Bool) → length (open_from k os) ≤ length os → length (cond b (o ∷ os) (open_from k os)) ≤ suc (length os)
    by true h = omega arith
    by false h = omega arith

-- each level holds the next one
pub data HeldLevels (s : Types) : List Placed → Type 0 where
  root-level : {q : Placed} → HeldLevels s (q ∷ [])
  next_level : {q r : Placed} {rs : List Placed} → T (s.holds (element r.element) (element q.element)) → HeldLevels s (r ∷ rs) → HeldLevels s (q ∷ r ∷ rs)

-- a level that was found is the first, or it holds an element
abbrev HoldsElement : Types → Placed → Type 0
HoldsElement s q = (b : ℕ) × T (s.holds (element q.element) (element b))

pub found-first-or-holds : {s : Types} {os : List Placed} → HeldLevels s os → (k : ℕ) (q : Placed) (qs : List Placed) → open_from k os ≡ q ∷ qs
    → (os ≡ q ∷ qs) ⊎ HoldsElement s q
found-first-or-holds {s} (root-level {q = r}) k q qs e = by (eqb r.number k) e
  where
    by : (b : Bool) → cond b (r ∷ []) [] ≡ q ∷ qs → (r ∷ [] ≡ q ∷ qs) ⊎ HoldsElement s q
    by true f = inl f
    by false f = never (cc)
found-first-or-holds {s} (next_level {q = p} {r = r} {rs = rs} t h) k q qs e = by (eqb p.number k) e (found-first-or-holds h k q qs)
  where
    by : (b : Bool) → cond b (p ∷ r ∷ rs) (open_from k (r ∷ rs)) ≡ q ∷ qs → (open_from k (r ∷ rs) ≡ q ∷ qs → (r ∷ rs ≡ q ∷ qs) ⊎ HoldsElement s q)
        → (p ∷ r ∷ rs ≡ q ∷ qs) ⊎ HoldsElement s q
    by true f g = inl f
    by false f g =
        ⊎_elim (λ z. inr (let same : r ≡ q = cc in (p.element, subst (λ (x : Placed). T (s.holds (element x.element) (element p.element))) same t))) (λ z. inr z) (g f)

pub found-held : {s : Types} {os : List Placed} → HeldLevels s os → (k : ℕ) (q : Placed) (qs : List Placed) → open_from k os ≡ q ∷ qs → HeldLevels s (q ∷ qs)
found-held {s} (root-level {q = r}) k q qs e = by (eqb r.number k) e
  where
    by : (b : Bool) → cond b (r ∷ []) [] ≡ q ∷ qs → HeldLevels s (q ∷ qs)
    by true f = subst (HeldLevels s) f root-level
    by false f = never (cc)
found-held {s} (next_level {q = p} {r = r} {rs = rs} t h) k q qs e = by (eqb p.number k) e (found-held h k q qs)
  where
    by : (b : Bool) → cond b (p ∷ r ∷ rs) (open_from k (r ∷ rs)) ≡ q ∷ qs → (open_from k (r ∷ rs) ≡ q ∷ qs → HeldLevels s (q ∷ qs)) → HeldLevels s (q ∷ qs)
    by true f g = subst (HeldLevels s) f (next_level t h)
    by false f g = g f
