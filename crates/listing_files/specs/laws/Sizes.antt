-- How many bytes a chain of tags takes at most: names have at most 31 bytes, and elements stand at most 64 deep.
use Rattle.std.specs.Prelude.{◌&&◌, List, [], ◌∷◌, ◌++◌, map, ◌≡◌, ℕ, zero, suc, ◌*◌, ◌≤◌, ◌<◌, leb, get_or}
use Rattle.std.proofs.Math.Option.{Option, none, some}
use Rattle.std.proofs.Math.Path.{refl, ap, subst}
use Rattle.std.proofs.Common.{sym, leb→le}
use native.Mathlib.Omega.{arith}
use Rattle.std.proofs.Math.Dec.{T}
use Rattle.std.proofs.Math.ListN.{length, get_elem?, length-append}
use Rattle.std.proofs.lemmas.List.{length-map}
use Rattle.cells.specs.row_sets.Ancestors.{by-parents}
use Rattle.chains.specs.laws.Nodes.{at_map, cell-of}
use Rattle.library_spec.specs.Chains.{tag, chain}
use Rattle.projection_laws.specs.Documents.{Valid}
use Rattle.projection_laws.specs.Rows.{rows-valid}
use Rattle.schema_laws.specs.Accepted.{accepted-name}
use Rattle.schema_spec.specs.Names.{Name, element, text}
use Rattle.schema_spec.specs.Reading.{read_schema}
use Rattle.schema_spec.specs.Schemas.{Schema, Element, name_or, name_at}
use Rattle.schema_spec.specs.Types.{types_of, holds}
use Rattle.table_laws.specs.Columns.{parents_of}
use Rattle.table_laws.specs.Parents.{NodeAt, ChildOf, child-of, Placed, nodes-placed, nodes-named}
use Rattle.table_laws.specs.Places.{at_bound, at_some, at_in}
use Rattle.table_laws.specs.WellFormed.{table-means}
use Rattle.table_spec.specs.Conditions.{RowAt, DepthAt, root-depth, element-depth, text-depth}
use Rattle.table_spec.specs.Nodes.{Node, top, under, name_of, is_top, deeper, depth_of, nodes_of}
use Rattle.table_spec.specs.Rows.{Row}
use Rattle.table_spec.specs.Tables.{well_formed}
use Rattle.text_laws.specs.Tests.{and_cases}
use Rattle.text_spec.specs.Bytes.{is_name, starts_name, continues_name}
use Rattle.text_spec.specs.Limits.{max_depth, max_name_bytes}
use Rattle.text_spec.specs.Lists.{bytes, all_of}
use Rattle.text_spec.specs.Refusals.{accepted}

-- ---- names
name-short : (w : List ℕ) → T (is_name w) → length w ≤ max_name_bytes
name-short [] t = absurd t
name-short (b ∷ w) t =
    let c = and_cases (starts_name b) (all_of continues_name w && leb (length (b ∷ w)) max_name_bytes) t in
    leb→le (length (b ∷ w)) max_name_bytes (and_cases (all_of continues_name w) (leb (length (b ∷ w)) max_name_bytes) c.1).1

module _ (source : List ℕ) (s : Schema) (read : read_schema source ≡ accepted s) where
  tag-short : (e : ℕ) → length (name_at s e) ≤ max_name_bytes
  tag-short e = by (get_elem? s e) refl
    where
      by : (o : Option Element) → get_elem? s e ≡ o → length (name_or o) ≤ max_name_bytes
      by none q = omega arith
      by (some x) q = name-short x.name (accepted-name source s read x (at_in s e x q))

  -- ---- the chain of a node by its depth; that of an element has no `text()`
  element-chain : (y : Node) → Valid (types_of s) y → (e : ℕ) → name_of y ≡ element e → length (chain s y) ≤ 32 * depth_of y
  unfolding types_of holds
  element-chain (top k n) v e q =
      let l = tag-short e in
      omega (arith, ap (λ (m : Name). length (bytes "/" ++ tag s m)) q)
  element-chain (under k n w p) v e q = by (name_of p) refl v.0 (λ a h. element-chain p v.1 a h)
    where
      by : (m : Name) → name_of p ≡ m → T (holds s m n) → ((a : ℕ) → name_of p ≡ element a → length (chain s p) ≤ 32 * depth_of p)
          → length (chain s p ++ (bytes "/" ++ tag s n)) ≤ 32 * deeper n (depth_of p)
      by (element a) h t onward =
          let l = tag-short e in
          let u = onward a h in
          subst (λ (m : Name). length (chain s p ++ (bytes "/" ++ tag s m)) ≤ 32 * deeper m (depth_of p)) (sym q)
          (omega (arith, length-append (chain s p) (bytes "/" ++ tag s (element e))))
      by (text a) h t onward = absurd t

  node-chain-short : (y : Node) → Valid (types_of s) y → depth_of y ≤ max_depth → length (chain s y) ≤ 2055
  unfolding types_of holds
  node-chain-short (top k n) v l = let u = element-chain (top k n) v 0 v.1 in omega arith
  node-chain-short (under k (element e) w p) v l = let u = element-chain (under k (element e) w p) v e refl in omega arith
  node-chain-short (under k (text e) w p) v l = by (name_of p) refl v.0
    where
      by : (m : Name) → name_of p ≡ m → T (holds s m (text e)) → length (chain s p ++ (bytes "/" ++ bytes "text()")) ≤ 2055
      by (element a) h t = let u = element-chain p v.1 a h in omega (arith, length-append (chain s p) (bytes "/" ++ bytes "text()"))
      by (text a) h t = absurd t

  -- ---- the nodes of a table
  module _ (lent : List ℕ) (rows : List Row) (ok : T (well_formed (types_of s) rows)) where
    abbrev doc : List Node
    doc = nodes_of lent rows

    placed : Placed (parents_of rows) doc
    placed = nodes-placed (types_of s) lent rows ok

    depth-at : (r : ℕ) → r < length (parents_of rows) → (y : Node) → NodeAt doc r y → DepthAt rows r (depth_of y)
    depth-at =
        by-parents (parents_of rows) placed.before (λ r. (y : Node) → NodeAt doc r y → DepthAt rows r (depth_of y)) (λ y a. root y (placed.root y a))
        (λ r p l h y a. later r p y a (placed.later r y p a) h)
      where
        root : (y : Node) → T (is_top y) → DepthAt rows 0 (depth_of y)
        root (top k n) t = root-depth
        root (under k n w x) t = absurd t

        of-parent : (i : ℕ) (q : Row) (k : ℕ) (n : Name) (w : List ℕ) (x : Node) → RowAt rows (suc i) q → q.name ≡ n → DepthAt rows q.parent (depth_of x)
            → DepthAt rows (suc i) (deeper n (depth_of x))
        of-parent i q k (element e) w x a h d = element-depth a h d
        of-parent i q k (text e) w x a h d = text-depth a h d

        later : (r : ℕ) → 0 < r → (y : Node) → NodeAt doc r y → ChildOf doc (get_or (parents_of rows) r 0) y
            → ((x : Node) → NodeAt doc (get_or (parents_of rows) r 0) x → DepthAt rows (get_or (parents_of rows) r 0) (depth_of x)) → DepthAt rows r (depth_of y)
        later zero p y a c h = absurd (omega arith)
        later (suc i) p y a (child-of {k = k} {n = n} {w = w} {x = x} b) h =
            let q = at_some rows (suc i) (omega (arith, at_bound doc (suc i) (under k n w x) a, placed.size, length-map rows (λ z. z.parent))) in
            let up : get_or (parents_of rows) (suc i) 0 ≡ q.0.parent = cell-of (λ z. z.parent) rows (suc i) q.0 q.1 in
            let own : q.0.name ≡ n = names_at (suc i) q.0 (under k n w x) q.1 a in
            of-parent i q.0 k n w x q.1 own (subst (λ (j : ℕ). DepthAt rows j (depth_of x)) up (h x b))
          where
            names_at : (j : ℕ) (z : Row) (v : Node) → get_elem? rows j ≡ some z → NodeAt doc j v → z.name ≡ name_of v
            names_at j z v e f =
                let here : get_elem? (map name_of doc) j ≡ some (name_of v) = at_map name_of doc j v f in
                let there : get_elem? (map (λ u. u.name) rows) j ≡ some z.name = at_map (λ u. u.name) rows j z e in
                let same = nodes-named lent rows in
                cc

    shallow-at : (r : ℕ) (y : Node) → NodeAt doc r y → depth_of y ≤ max_depth
    shallow-at zero y a = by y (placed.root y a)
      where
        by : (x : Node) → T (is_top x) → depth_of x ≤ max_depth
        by (top k n) t = omega arith
        by (under k n w x) t = absurd t
    shallow-at (suc i) y a =
        let inside = at_bound doc (suc i) y a in
        let size = placed.size in
        let same = length-map rows (λ z. z.parent) in
        let q = at_some rows i (omega arith) in
        let r = at_some rows (suc i) (omega arith) in
        ((table-means (types_of s) rows ok).later_row i q.0 r.0 q.1 r.1).shallow (depth_of y) (depth-at (suc i) (omega arith) y a)

    -- the longest chain: 64 tags of 32 bytes with their strokes, and `/text()`
    pub chain-short : (r : ℕ) (y : Node) → NodeAt doc r y → length (chain s y) ≤ 2055
    chain-short r y a = node-chain-short y (rows-valid (types_of s) lent rows ok y (at_in doc r y a)) (shallow-at r y a)
