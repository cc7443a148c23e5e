-- Types and contexts are sound for every axis (source document 000, lemma 4.2): a node that a step reaches has its name in the type,
-- and the names of it and of all its ancestors in the context.
use Rattle.std.specs.Prelude.{Bool, ◌||◌, ◌⊎◌, refl, ℕ, T}
use mathlib.Core.List.Memᴰ.{append_left}
use mathlib.Core.List.Memᴰ.{append_right}
use mathlib.Core.List.{Memᴰ as In}
use Rattle.std.proofs.Common.{inl, inr, ⊎_elim, sym, subst}
use Rattle.inference_spec.specs.Needed.{linked, between}
use Rattle.inference_spec.specs.Types.{held_by, holding, all_below, all_above, union_of, cut_to, Env, move, narrow}
use Rattle.path_spec.specs.Paths.{Axis, child, parent, NodeTest}
use Rattle.path_spec.specs.Selection.{OnAxis, on-self, on-child, on-descendant, here-or-below, below-or-here, on-parent, on-ancestor, here-or-above, above-or-here, passes}
use Rattle.projection_laws.specs.Documents.{SubsetOf, Within, Valid, Lawful, own-within, edge-within, above_within, child-within, edge-valid, edge-holds, name_in, above-below, down-within}
use Rattle.schema_laws.specs.Names.{in-has, same-name, in_within}
use Rattle.schema_spec.specs.Names.{Name, Names, has, within, same_name}
use Rattle.schema_spec.specs.Types.{Types, is_below}
use Rattle.table_spec.specs.Nodes as nodes
use Rattle.table_spec.specs.Nodes.{Node, top, under, name_of, Edge, Above}
use Rattle.text_laws.specs.Lists.{any-in, in-filter, filter-in}
use Rattle.text_laws.specs.Tests.{or_left, or_right}
use Rattle.text_spec.specs.Lists.{any_of, filter_by}

-- what the inference knows of a node
abbrev pub Typed : Env → Node → Type 0
Typed e y = In (name_of y) e.type × Within e.context y

module _ (s : Types) (law : Lawful s) where
  pub in-union : (a b : Names) {n : Name} → In n s.names → In n a ⊎ In n b → In n (union_of s a b)
  in-union a b {n} j i =
      in-filter (λ m. has m a || has m b) j
      (⊎_elim (λ h. or_left (has n a) (has n b) (in-has h)) (λ h. or_right (has n a) (has n b) (in-has h)) i)

  pub in-below : (t : Names) {a n : Name} → In a t → In n s.names → T (is_below s a n) → In n (all_below s t)
  in-below t {n} i j b = in-filter (λ m. any_of (λ c. is_below s c m) t) j (any-in (λ c. is_below s c n) i b)

  pub in-above : (t : Names) {n b : Name} → In b t → In n s.names → T (is_below s n b) → In n (all_above s t)
  in-above t {n} i j h = in-filter (λ m. any_of (λ c. is_below s m c) t) j (any-in (λ c. is_below s n c) i h)

  -- a union has the names of a valid node that the first set has
  union-within : (a b : Names) (y : Node) → Valid s y → Within a y → Within (union_of s a b) y
  union-within a b (top k n) v w = in-union a b (name_in s law (top k n) v) (inl w)
  union-within a b (under k n x p) v w = (in-union a b (name_in s law (under k n x p) v) (inl w.0), union-within a b p v.1 w.1)

  -- ---- "K is cut to T and above T": a node whose name is in T keeps its context
  cut-above : (t k : Names) {n : Name} → In n t → (z : Node) → Valid s z → Within k z → T (is_below s (name_of z) n) → Within (cut_to s t k) z
  cut-above t k i (top l m) v w b = in_within w (append_right t (in-above t i (name_in s law (top l m) v) b))
  cut-above t k {n} i (under l m x p) v w b = (
    in_within w.0 (append_right t (in-above t i (name_in s law (under l m x p) v) b)),
    cut-above t k i p v.1 w.1 (law.below-trans (name_of p) m n (law.below_one (name_of p) m v.0) b),
  )

  pub cut-within : (t k : Names) (y : Node) → Valid s y → Within k y → In (name_of y) t → Within (cut_to s t k) y
  cut-within t k (top l m) v w i = in_within w (append_left (all_above s t) i)
  cut-within t k (under l m x p) v w i = (
    in_within w.0 (append_left (all_above s t) i),
    cut-above t k i p v.1 w.1 (law.below_one (name_of p) m v.0),
  )

  pub narrow-typed : (f : Name → Bool) (e : Env) (y : Node) → Valid s y → T (f (name_of y)) → Typed e y → Typed (narrow s f e) y
  narrow-typed f e y v t (i, w) = (in-filter f i t, cut-within (filter_by f e.type) e.context y v w (in-filter f i t))

  -- ---- each axis
  below-typed : (t u k : Names) {x y : Node} → Valid s x → Valid s y → Above x y → In (name_of x) t → SubsetOf (all_below s t) u → Within k x
      → In (name_of y) u × Within (union_of s k u) y
  below-typed t u k {x} {y} v o a i sub w = (
    sub (name_of y) (in-below t i (name_in s law y o) (above-below s law a o)),
    down-within s law (union_of s k u) (name_of y) (union-within k u x v w) (λ m j b r. in-union k u j (inr (sub m (in-below t i j b)))) a o (inl refl),
  )

  child-typed : (c : NodeTest ℕ) (e : Env) {x y : Node} → Edge x y → Valid s y → T (passes c (name_of y)) → Typed e x → Typed (move s child c e) y
  child-typed c e {x} {y} g v q (i, w) =
      let t = held_by s e.type in
      let m : In (name_of y) s.names = name_in s law y v in
      let j : In (name_of y) t = in-filter (λ n. any_of (λ a. s.holds a n) e.type) m (any-in (λ a. s.holds a (name_of y)) i (edge-holds s g v)) in (
        j,
        child-within (union_of s e.context (filter_by (passes c) t)) g (in-union e.context (filter_by (passes c) t) m (inr (in-filter (passes c) j q)))
            (union-within e.context (filter_by (passes c) t) x (edge-valid s g v) w),
      )

  parent-typed : (c : NodeTest ℕ) (e : Env) {x y : Node} → Edge y x → Valid s x → Valid s y → Typed e x → Typed (move s parent c e) y
  parent-typed c e {x} {y} g v o (i, w) =
      let k = e.context in
      let wy : Within k y = edge-within k g w in
      let j : In (name_of y) (within (holding s e.type) k) =
      in_within
      (in-filter (λ n. any_of (λ b. s.holds n b) e.type) (name_in s law y o) (any-in (λ b. s.holds (name_of y) b) i (edge-holds s g v))) (own-within k y wy) in
      (j, cut-within (within (holding s e.type) k) k y o wy j)

  above_in : (t k : Names) {x y : Node} → Above y x → Valid s x → Valid s y → In (name_of x) t → Within k x → In (name_of y) (within (all_above s t) k)
  above_in t k {x} {y} a v o i w =
      in_within (in-above t i (name_in s law y o) (above-below s law a v)) (own-within k y (above_within k a w))

  pub move-typed : (c : NodeTest ℕ) (e : Env) {a : Axis} {x y : Node} → OnAxis a x y → Valid s x → Valid s y → T (passes c (name_of y)) → Typed e x
      → Typed (move s a c e) y
  move-typed c e on-self v o q f = f
  move-typed c e (on-child g) v o q f = child-typed c e g o q f
  move-typed c e (on-descendant u) v o q (i, w) = below-typed e.type (all_below s e.type) e.context v o u i (λ n h. h) w
  move-typed c e (here-or-below {x = x}) v o q (i, w) =
      let l = all_below s e.type in
      (in-union e.type l (name_in s law x v) (inl i), union-within e.context (union_of s e.type l) x v w)
  move-typed c e (below-or-here u) v o q (i, w) =
      let l = all_below s e.type in
      below-typed e.type (union_of s e.type l) e.context v o u i
      (λ n j. in-union e.type l (filter-in (λ m. any_of (λ b. is_below s b m) e.type) s.names j).0 (inr j)) w
  move-typed c e (on-parent g) v o q f = parent-typed c e g v o f
  move-typed c e (on-ancestor {x = x} {y = y} u) v o q (i, w) =
      let k = e.context in
      let j = above_in e.type k u v o i w in
      (j, cut-within (within (all_above s e.type) k) k y o (above_within k u w) j)
  move-typed c e (here-or-above {x = x}) v o q (i, w) =
      let k = e.context in
      let l = within (all_above s e.type) k in
      let j : In (name_of x) (union_of s e.type l) = in-union e.type l (name_in s law x v) (inl i) in
      (j, cut-within (union_of s e.type l) k x v w j)
  move-typed c e (above-or-here {x = x} {y = y} u) v o q (i, w) =
      let k = e.context in
      let l = within (all_above s e.type) k in
      let j : In (name_of y) (union_of s e.type l) = in-union e.type l (name_in s law y o) (inr (above_in e.type k u v o i w)) in
      (j, cut-within (union_of s e.type l) k y o (above_within k u w) j)

  -- ---- nodes on an axis have names that can be neighbours on a walk
  same_or : (a b : Name) (r : Bool) → T r → T (same_name a b || r)
  same_or a b r t = or_right (same_name a b) r t

  itself-or : (a : Name) (r : Bool) → T (same_name a a || r)
  itself-or a r = or_left (same_name a a) r (same-name a)

  pub axis-linked : {a : Axis} {x y : Node} → OnAxis a x y → Valid s x → Valid s y → T (linked s a (name_of x) (name_of y))
  axis-linked (on-self {x = x}) v o = same-name (name_of x)
  axis-linked (on-child g) v o = edge-holds s g o
  axis-linked (on-descendant u) v o = above-below s law u o
  axis-linked (here-or-below {x = x}) v o = itself-or (name_of x) (is_below s (name_of x) (name_of x))
  axis-linked (below-or-here {x = x} {y = y} u) v o = same_or (name_of x) (name_of y) (is_below s (name_of x) (name_of y)) (above-below s law u o)
  axis-linked (on-parent g) v o = edge-holds s g v
  axis-linked (on-ancestor u) v o = above-below s law u v
  axis-linked (here-or-above {x = x}) v o = itself-or (name_of x) (is_below s (name_of x) (name_of x))
  axis-linked (above-or-here {x = x} {y = y} u) v o = same_or (name_of x) (name_of y) (is_below s (name_of y) (name_of x)) (above-below s law u v)

  -- ---- from a node whose ancestors are all in r an axis leads to such a node, if r has its name and the names between
  below-kept : (g h r : Names) {x y : Node} → Above x y → Valid s y → In (name_of x) g → In (name_of y) h → In (name_of y) r
      → SubsetOf (within (all_below s g) (all_above s h)) r → Within r x → Within r y
  below-kept g h r {x} {y} u o i j l sub w =
      down-within s law r (name_of y) w
      (λ m k b q.
      ⊎_elim (λ e. subst (λ (z : Name). In z r) (sym e) l)
      (λ c. sub m (in_within (in-below g i k b) (in-above h j k c))) q) u o (inl refl)

  pub axis-within : (g h r : Names) {a : Axis} {x y : Node} → OnAxis a x y → Valid s y → In (name_of x) g → In (name_of y) h → In (name_of y) r
      → SubsetOf (between s a g h) r → Within r x → Within r y
  axis-within g h r on-self o i j l sub w = w
  axis-within g h r (on-child e) o i j l sub w = child-within r e l w
  axis-within g h r (on-descendant u) o i j l sub w = below-kept g h r u o i j l sub w
  axis-within g h r here-or-below o i j l sub w = w
  axis-within g h r (below-or-here u) o i j l sub w = below-kept g h r u o i j l sub w
  axis-within g h r (on-parent e) o i j l sub w = edge-within r e w
  axis-within g h r (on-ancestor u) o i j l sub w = above_within r u w
  axis-within g h r here-or-above o i j l sub w = w
  axis-within g h r (above-or-here u) o i j l sub w = above_within r u w
