-- The chain of a row by the columns of a well-formed table is the chain of its node.
use Rattle.std.specs.Prelude.{List, [], ◌∷◌, ◌++◌, map, ◌≡◌, ℕ, zero, suc, ◌<◌, T, length, get_or}
use Rattle.std.proofs.Math.Option.{some}
use Rattle.std.proofs.Common.{sym, ap, ap₂, ◌∙◌, arith}
use Rattle.std.proofs.Math.ListN.{get_elem?}
use Rattle.std.proofs.lemmas.List.{length-map}
use Rattle.cells.specs.row_sets.Ancestors.{by-parents}
use Rattle.chains.specs.laws.Names.{link_tag}
use Rattle.chains.specs.tags.Chains.{link_at, chain_at, chain-root, chain-later}
use Rattle.compiled_schema.specs.Compiled.{CompiledOf}
use Rattle.compiled_schema.specs.declared.CompiledSchema.{CompiledSchema}
use Rattle.library_spec.specs.Chains.{tag, chain}
use Rattle.schema_spec.specs.Names.{code_of}
use Rattle.schema_spec.specs.Reading.{read_schema}
use Rattle.schema_spec.specs.Schemas.{Schema}
use Rattle.schema_spec.specs.Types.{types_of}
use Rattle.table_laws.specs.Fits.{row-held}
use Rattle.table_laws.specs.Parents.{NodeAt, ChildOf, child-of, Placed, nodes-placed, nodes-named}
use Rattle.table_laws.specs.Places.{none-some, at_bound, at_some, at_in}
use Rattle.table_spec.specs.Nodes.{Node, top, under, name_of, is_top, nodes_of}
use Rattle.table_spec.specs.Rows.{Row}
use Rattle.table_spec.specs.Tables.{well_formed}
use Rattle.text_spec.specs.Lists.{bytes}
use Rattle.text_spec.specs.Refusals.{accepted}
use Rattle.text_spec.specs.Scans.{name_at}

-- what stands at a place of a list that is mapped
pub at_map : {A B : Type 0} (f : A → B) (xs : List A) (i : ℕ) (x : A) → get_elem? xs i ≡ some x → get_elem? (map f xs) i ≡ some (f x)
at_map f [] i x e = none-some e
at_map {A} {B} f (a ∷ xs) zero x e = let h : a ≡ x = cc in ap (λ (z : A). some (f z)) h
at_map f (a ∷ xs) (suc i) x e = at_map f xs i x e

pub cell-of : {A : Type 0} (f : A → ℕ) (xs : List A) (i : ℕ) (x : A) → get_elem? xs i ≡ some x → get_or (map f xs) i 0 ≡ f x
cell-of f [] i x e = none-some e
cell-of {A} f (a ∷ xs) zero x e = let h : a ≡ x = cc in ap f h
cell-of f (a ∷ xs) (suc i) x e = cell-of f xs i x e

-- the columns of a table's rows
abbrev pub parents_of : List Row → List ℕ
parents_of rows = map (λ r. r.parent) rows

abbrev pub codes_of : List Row → List ℕ
codes_of rows = map (λ r. code_of r.name) rows

module _ (text : List ℕ) (s : Schema) (read : read_schema text ≡ accepted s) (t : CompiledSchema) (made : CompiledOf text s t) (sizes : List ℕ)
    (sized : sizes ≡ map (λ p. length (name_at text p)) t.names) (lent : List ℕ) (rows : List Row) (ok : T (well_formed (types_of s) rows)) where
  abbrev doc : List Node
  doc = nodes_of lent rows

  placed : Placed (parents_of rows) doc
  placed = nodes-placed (types_of s) lent rows ok

  abbrev chain_of : ℕ → List ℕ
  chain_of r = chain_at text t.names sizes (codes_of rows) (parents_of rows) r

  link-of : (r : ℕ) (y : Node) → NodeAt doc r y → link_at text t.names sizes (get_or (codes_of rows) r 0) ≡ bytes "/" ++ tag s (name_of y)
  link-of r y a =
      let q = at_some rows r (omega (arith, at_bound doc r y a, placed.size, length-map rows (λ x. x.parent))) in
      let here : get_elem? (map name_of doc) r ≡ some (name_of y) = at_map name_of doc r y a in
      let there : get_elem? (map (λ x. x.name) rows) r ≡ some q.0.name = at_map (λ x. x.name) rows r q.0 q.1 in
      let same = nodes-named lent rows in
      let name : name_of y ≡ q.0.name = cc in
      ap (link_at text t.names sizes) (cell-of (λ x. code_of x.name) rows r q.0 q.1)
      ∙ link_tag text s read t made sizes sized q.0.name (row-held (types_of s) rows ok (at_in rows r q.0 q.1))
      ∙ ap (λ n. bytes "/" ++ tag s n) (sym name)

  root-chain : (y : Node) → NodeAt doc 0 y → T (is_top y) → chain_of 0 ≡ chain s y
  root-chain (top k n) a u = chain-root text t.names sizes (codes_of rows) (parents_of rows) ∙ link-of 0 (top k n) a
  root-chain (under k n w p) a u = absurd u

  later-chain : (r : ℕ) → 0 < r → r < length (parents_of rows) → (y : Node) → NodeAt doc r y → ChildOf doc (get_or (parents_of rows) r 0) y
      → ((x : Node) → NodeAt doc (get_or (parents_of rows) r 0) x → chain_of (get_or (parents_of rows) r 0) ≡ chain s x) → chain_of r ≡ chain s y
  later-chain r p l y a (child-of {k = k} {n = n} {w = w} {x = x} b) h =
      chain-later text t.names sizes (codes_of rows) (parents_of rows) placed.before r p l ∙ ap₂ ◌++◌ (h x b) (link-of r (under k n w x) a)

  pub node-chain : (r : ℕ) (y : Node) → NodeAt doc r y → chain_of r ≡ chain s y
  node-chain r y a =
      by-parents (parents_of rows) placed.before (λ q. (x : Node) → NodeAt doc q x → chain_of q ≡ chain s x) (λ x b. root-chain x b (placed.root x b))
      (λ q p l h x b. later-chain q p l x b (placed.later q x p b) h) r (omega (arith, at_bound doc r y a, placed.size)) y a
