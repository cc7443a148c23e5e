-- Nodes of valid documents: their names against holdings, and sets that have the names of a node and of all its ancestors.
use mathlib.Core.List.{List, Memᴰ as In}
use Rattle.std.specs.Prelude.{◌⊎◌, ◌≡◌, T}
use Rattle.std.proofs.Common.{inl, inr, sym, subst}
use Rattle.extract_spec.specs.Cut.{kept}
use Rattle.schema_laws.specs.Names.{has_in, in-has}
use Rattle.schema_spec.specs.Names.{Name, Names, has}
use Rattle.schema_spec.specs.Types.{Types, is_below}
use Rattle.table_spec.specs.Nodes.{Node, top, under, name_of, Edge, edge, Above, parent, higher}
use Rattle.text_laws.specs.Tests.{and_intro, and_cases}

-- the one set is inside the other
abbrev pub SubsetOf : Names → Names → Type 0
SubsetOf a b = (n : Name) → In n a → In n b

-- the names of the node and of all its ancestors are in the set
abbrev pub Within : Names → Node → Type 0
Within a (top k n) = In n a
Within a (under k n w p) = In n a × Within a p

-- the root has number 0 and the root's name, so that all nodes of a document stand under one root, and each other node's name is held by its
-- parent's
abbrev pub Valid : Types → Node → Type 0
Valid s (top k n) = (k ≡ 0) × (n ≡ s.root)
Valid s (under k n w p) = T (s.holds (name_of p) n) × Valid s p

abbrev pub AllValid : Types → List Node → Type 0
AllValid s doc = (y : Node) → In y doc → Valid s y

-- what is asked of the types of a schema
pub record Lawful (s : Types) : Type 0 where
  pub rooted : In s.root s.names
  pub closed : (a b : Name) → T (s.holds a b) → In a s.names × In b s.names
  pub below_one : (a b : Name) → T (s.holds a b) → T (is_below s a b)
  pub below-trans : (a b c : Name) → T (is_below s a b) → T (is_below s b c) → T (is_below s a c)

-- ---- sets along the ancestors
pub own-within : (a : Names) (y : Node) → Within a y → In (name_of y) a
own-within a (top k n) w = w
own-within a (under k n v p) w = w.0

pub wider : (a b : Names) → SubsetOf a b → (y : Node) → Within a y → Within b y
wider a b sub (top k n) w = sub n w
wider a b sub (under k n v p) w = (sub n w.0, wider a b sub p w.1)

pub within-kept : (a : Names) (y : Node) → Within a y → T (kept a y)
within-kept a (top k n) w = in-has w
within-kept a (under k n v p) w = and_intro (has n a) (kept a p) (in-has w.0) (within-kept a p w.1)

pub kept-within : (a : Names) (y : Node) → T (kept a y) → Within a y
kept-within a (top k n) t = has_in n a t
kept-within a (under k n v p) t =
    let c = and_cases (has n a) (kept a p) t in
    (has_in n a c.0, kept-within a p c.1)

pub edge-within : (a : Names) {x y : Node} → Edge x y → Within a y → Within a x
edge-within a edge w = w.1

pub above_within : (a : Names) {x y : Node} → Above x y → Within a y → Within a x
above_within a (parent e) w = edge-within a e w
above_within a (higher u e) w = above_within a u (edge-within a e w)

pub child-within : (a : Names) {x y : Node} → Edge x y → In (name_of y) a → Within a x → Within a y
child-within a edge i w = (i, w)

-- ---- validity along the ancestors
pub edge-valid : (s : Types) {x y : Node} → Edge x y → Valid s y → Valid s x
edge-valid s edge v = v.1

pub edge-holds : (s : Types) {x y : Node} → Edge x y → Valid s y → T (s.holds (name_of x) (name_of y))
edge-holds s edge v = v.0

module _ (s : Types) (law : Lawful s) where
  pub name_in : (y : Node) → Valid s y → In (name_of y) s.names
  name_in (top k n) v = subst (λ (z : Name). In z s.names) (sym v.1) law.rooted
  name_in (under k n w p) v = (law.closed (name_of p) n v.0).1

  pub above-below : {x y : Node} → Above x y → Valid s y → T (is_below s (name_of x) (name_of y))
  above-below {x} {y} (parent e) v = law.below_one (name_of x) (name_of y) (edge-holds s e v)
  above-below {x} (higher {y = y} {z = z} u e) v =
      law.below-trans (name_of x) (name_of y) (name_of z) (above-below u (edge-valid s e v)) (law.below_one (name_of y) (name_of z) (edge-holds s e v))

  -- m is n, or above it
  abbrev pub Reaches : Name → Name → Type 0
  Reaches m n = (m ≡ n) ⊎ T (is_below s m n)

  reaches-up : (a b n : Name) → T (s.holds a b) → Reaches b n → Reaches a n
  reaches-up a b n t (inl e) = inr (subst (λ (z : Name). T (is_below s a z)) e (law.below_one a b t))
  reaches-up a b n t (inr h) = inr (law.below-trans a b n (law.below_one a b t) h)

  -- From x down to z: z's ancestors are in the set if it has every name that is below x's and reaches n, where z's name does.
  pub down-within : (a : Names) (n : Name) {x z : Node} → Within a x → ((m : Name) → In m s.names → T (is_below s (name_of x) m) → Reaches m n → In m a)
      → Above x z → Valid s z → Reaches (name_of z) n → Within a z
  down-within a n {x} {z} w h (parent e) v r = child-within a e (h (name_of z) (name_in z v) (above-below (parent e) v) r) w
  down-within a n {x} w h (higher {y = y} {z = z} u e) v r =
      child-within a e (h (name_of z) (name_in z v) (above-below (higher u e) v) r)
      (down-within a n w h u (edge-valid s e v) (reaches-up (name_of y) (name_of z) n (edge-holds s e v) r))
