-- The node of a row, by its place, and what its ancestors and its depth say of the rows.
use Rattle.std.specs.Prelude.{List, [], ◌≡◌, refl, ℕ, suc, ◌<◌, ◌≤◌, T}
use Rattle.std.proofs.Common.{⊎_elim, sym, ap, subst, ◌∙◌, arith}
use Rattle.schema_spec.specs.Names.{Name, element, text}
use Rattle.table_laws.specs.Nodes.{nodes-equal, nodes-same}
use Rattle.table_spec.specs.Conditions.{RowAt, RowAbove, parent, higher, DepthAt, root-depth, element-depth, text-depth}
use Rattle.table_spec.specs.Nodes.{Node, top, under, node_number, name_of, same, is_above, depth_of, deeper}
use Rattle.table_spec.specs.Rows.{Row, characters_of}
use Rattle.text_laws.specs.Tests.{or_left, or_right, or_cases}

-- y is the node of row i, whose ancestors are the nodes of rows before it
pub data NodeOf (rows : List Row) : ℕ → Node → Type 0 where
  root-node : {r : Row} → RowAt rows 0 r → NodeOf rows 0 (top r.number r.name)
  later-node : {i : ℕ} {r : Row} {p : Node} → RowAt rows (suc i) r → r.parent ≤ i → NodeOf rows r.parent p
      → NodeOf rows (suc i) (under r.number r.name (characters_of [] r) p)

-- numbers rise from row to row
abbrev pub Rising : List Row → Type 0
Rising rows = (i j : ℕ) (q r : Row) → i < j → RowAt rows i q → RowAt rows j r → q.number < r.number

module _ {rows : List Row} where
  pub node_row : {i : ℕ} {y : Node} → NodeOf rows i y → (r : Row) × RowAt rows i r × (node_number y ≡ r.number) × (name_of y ≡ r.name)
  node_row (root-node {r = r} g) = (r, g, refl, refl)
  node_row (later-node {r = r} g h n) = (r, g, refl, refl)

  -- a row has one node
  pub one-node : {i : ℕ} {x y : Node} → NodeOf rows i x → NodeOf rows i y → x ≡ y
  one-node (root-node {r = q} g) (root-node {r = r} h) = let e : q ≡ r = cc in ap (λ (z : Row). top z.number z.name) e
  one-node (later-node {i = i} {r = q} {p = p} g b m) (later-node {r = r} {p = o} h c n) =
      let e : q ≡ r = cc in
      let k : p ≡ o = one-node m (subst (λ (z : Row). NodeOf rows z.parent o) (sym e) n) in
      ap (λ (z : Row). under z.number z.name (characters_of [] z) p) e ∙ ap (under r.number r.name (characters_of [] r)) k

  -- a node has one row, since numbers differ
  pub one_place : Rising rows → {i j : ℕ} {x : Node} → NodeOf rows i x → NodeOf rows j x → i ≡ j
  one_place rise {i} {j} m n =
      let a = node_row m in
      let b = node_row n in
      let same_number : a.0.number ≡ b.0.number = sym a.2 ∙ b.2 in
      let left : i < j → ⊥ = λ h. let l = rise i j a.0 b.0 h a.1 b.1 in omega arith in
      let right : j < i → ⊥ = λ h. let l = rise j i b.0 a.0 h b.1 a.1 in omega arith in
      omega arith

  -- rows above are nodes above
  pub row-above : {i j : ℕ} {y : Node} → RowAbove rows j i → NodeOf rows i y → (x : Node) × NodeOf rows j x × T (is_above x y) × (j < i)
  row-above (parent {r = q} g) (later-node {i = i} {r = r} {p = p} h b n) =
      let e : q ≡ r = cc in
      (p, subst (λ (z : Row). NodeOf rows z.parent p) (sym e) n, or_left (same p p) (is_above p p) (nodes-same p), rw e (omega arith))
  row-above (higher {r = q} g a) (later-node {i = i} {r = r} {p = p} h b n) =
      let e : q ≡ r = cc in
      let up : q.parent ≡ r.parent = rw e in
      let c = row-above a (subst (λ (z : Row). NodeOf rows z.parent p) (sym e) n) in
      let l = c.3 in
      (c.0, c.1, or_right (same c.0 p) (is_above c.0 p) c.2, omega arith)

  -- and nodes above are rows above
  pub node-above : {i : ℕ} {y : Node} (x : Node) → NodeOf rows i y → T (is_above x y) → (j : ℕ) × RowAbove rows j i × NodeOf rows j x
  node-above x (root-node g) t = absurd t
  node-above x (later-node {r = r} {p = p} g b n) t =
      ⊎_elim (λ u. (r.parent, parent g, subst (λ (z : Node). NodeOf rows r.parent z) (sym (nodes-equal x p u)) n))
      (λ u.
      let c = node-above x n u in
      (c.0, higher g c.1, c.2)) (or_cases (same x p) (is_above x p) t)

  -- the depth of a row is its node's
  pub depth-of : {i : ℕ} {y : Node} → NodeOf rows i y → DepthAt rows i (depth_of y)
  depth-of (root-node g) = root-depth
  depth-of (later-node {i = i} {r = r} {p = p} g b n) = by_name r.name refl (depth-of n)
    where
      by_name : (m : Name) → r.name ≡ m → DepthAt rows r.parent (depth_of p) → DepthAt rows (suc i) (deeper m (depth_of p))
      by_name (element e) q d = element-depth g q d
      by_name (text e) q d = text-depth g q d

  pub one-depth : {i d : ℕ} {y : Node} → DepthAt rows i d → NodeOf rows i y → d ≡ depth_of y
  one-depth root-depth (root-node g) = refl
  one-depth (element-depth {e = c} {r = q} g m a) (later-node {r = r} {p = p} h b n) =
      let e : q ≡ r = cc in
      let k : r.name ≡ element c = rw (← e) m in
      rw k (ap suc (one-depth a (subst (λ (z : Row). NodeOf rows z.parent p) (sym e) n)))
  one-depth (text-depth {e = c} {r = q} g m a) (later-node {r = r} {p = p} h b n) =
      let e : q ≡ r = cc in
      let k : r.name ≡ text c = rw (← e) m in
      rw k (one-depth a (subst (λ (z : Row). NodeOf rows z.parent p) (sym e) n))
