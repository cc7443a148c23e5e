-- The chain of tags of a row, by the columns of a table and the places of the elements' names in a text.
use Rattle.std.specs.Prelude.{Bool, true, false, cond, ◌≡◌, ltb, length, get_or, drop}
use mathlib.Core.List.{List, [], ◌∷◌, ◌++◌}
use Rattle.std.proofs.Math.Path.{refl, ap, ap₂}
use Rattle.std.proofs.Common.{sym, ◌∙◌, lt-ltb, le-ltb, ltb-true, length-take, length-drop}
use Prim.Native.Nat.{ℕ, ◌+◌, ◌≤◌, ◌<◌}
use native.Mathlib.Omega.{arith}
use Rattle.std.proofs.Math.ListN.{length-append}
use Rattle.std.proofs.lemmas.List.Edits.{sets}
use Rattle.std.proofs.Math.Seq.{length-sets}
use Rattle.cells.specs.row_sets.Ancestors.{ancestors_of, root-ancestors, later-ancestors}
use Rattle.table_laws.specs.Parents.{ParentsBefore}
use Rattle.text_laws.specs.Cells.{sets-append}
use Rattle.text_spec.specs.Limits.{max_declarations, max_nodes, max_schema_bytes}
use Rattle.text_spec.specs.Lists.{bytes, part}

-- ---- definitions
-- "/" and the tag of the name with a code
unfoldable pub link_at : List ℕ → List ℕ → List ℕ → ℕ → List ℕ
link_at text starts sizes c = bytes "/" ++ cond (ltb c max_declarations) (part (get_or starts c 0) (get_or sizes c 0) text) (bytes "text()")

unfoldable pub link_size : List ℕ → ℕ → ℕ
link_size sizes c = cond (ltb c max_declarations) (get_or sizes c 0 + 1) 7

-- what the rows of a line have, the last of them first
unfoldable pub linked : (ℕ → List ℕ) → List ℕ → List ℕ
linked f [] = []
linked f (r ∷ rs) = linked f rs ++ f r

unfoldable pub summed : (ℕ → ℕ) → List ℕ → ℕ
summed f [] = 0
summed f (r ∷ rs) = summed f rs + f r

-- the row and those above it, from the root down
unfoldable pub chain_at : List ℕ → List ℕ → List ℕ → List ℕ → List ℕ → ℕ → List ℕ
chain_at text starts sizes codes ps r = linked (λ q. link_at text starts sizes (get_or codes q 0)) (r ∷ ancestors_of ps r)

unfoldable pub chain_size : List ℕ → List ℕ → List ℕ → ℕ → ℕ
chain_size sizes codes ps r = summed (λ q. link_size sizes (get_or codes q 0)) (r ∷ ancestors_of ps r)

-- ---- what the functions ask
-- a cell for each element, with a size that a schema text has room for
pub record SizesFit (sizes : List ℕ) : Type 0 where
  pub many : max_declarations ≤ length sizes
  pub small : (e : ℕ) → e < max_declarations → get_or sizes e 0 ≤ max_schema_bytes

-- the names lie inside the text
pub record NamesAt (text starts sizes : List ℕ) : Type 0 where
  pub fit : SizesFit sizes
  pub many : max_declarations ≤ length starts
  pub inside : (e : ℕ) → e < max_declarations → get_or starts e 0 + get_or sizes e 0 ≤ length text

pub record LinkPass (text starts sizes : List ℕ) (c : ℕ) (out : List ℕ) (at : ℕ) : Type 0 where
  pub named : NamesAt text starts sizes
  pub room : at + link_size sizes c ≤ length out

pub record SizePass (sizes codes ps : List ℕ) (row : ℕ) : Type 0 where
  pub fit : SizesFit sizes
  pub before : ParentsBefore ps
  pub size : length codes ≡ length ps
  pub few : length ps ≤ max_nodes
  pub within : row < length ps

pub record ChainPass (text starts sizes codes ps : List ℕ) (row : ℕ) (out : List ℕ) : Type 0 where
  pub named : NamesAt text starts sizes
  pub table : SizePass sizes codes ps row
  pub room : chain_size sizes codes ps row ≤ length out

-- the chain stands in the first cells, and n is the cell past it
pub record Chained (text starts sizes codes ps : List ℕ) (row : ℕ) (was : List ℕ) (n : ℕ) (out : List ℕ) : Type 0 where
  pub counted : n ≡ length (chain_at text starts sizes codes ps row)
  pub written : out ≡ sets was 0 (chain_at text starts sizes codes ps row)

-- ---- links
pub link-size-element : (sizes : List ℕ) (c : ℕ) → c < max_declarations → get_or sizes c 0 + 1 ≡ link_size sizes c
unfolding link_size
link-size-element sizes c l = sym (ap (λ (b : Bool). cond b (get_or sizes c 0 + 1) 7) (lt-ltb c max_declarations l))

pub link-size-text : (sizes : List ℕ) (c : ℕ) → max_declarations ≤ c → 7 ≡ link_size sizes c
unfolding link_size
link-size-text sizes c l = sym (ap (λ (b : Bool). cond b (get_or sizes c 0 + 1) 7) (le-ltb c max_declarations l))

pub link-element : (text starts sizes : List ℕ) (c : ℕ) → c < max_declarations → link_at text starts sizes c ≡ bytes "/" ++ part (get_or starts c 0) (get_or sizes c 0) text
unfolding link_at
link-element text starts sizes c l = ap (λ (b : Bool). bytes "/" ++ cond b (part (get_or starts c 0) (get_or sizes c 0) text) (bytes "text()")) (lt-ltb c max_declarations l)

pub link-text : (text starts sizes : List ℕ) (c : ℕ) → max_declarations ≤ c → link_at text starts sizes c ≡ bytes "/" ++ bytes "text()"
unfolding link_at
link-text text starts sizes c l = ap (λ (b : Bool). bytes "/" ++ cond b (part (get_or starts c 0) (get_or sizes c 0) text) (bytes "text()")) (le-ltb c max_declarations l)

pub link-small : (sizes : List ℕ) → SizesFit sizes → (c : ℕ) → link_size sizes c ≤ max_schema_bytes + 1
unfolding link_size
link-small sizes f c = by (ltb c max_declarations) refl
  where
    by : (b : Bool) → ltb c max_declarations ≡ b → cond b (get_or sizes c 0 + 1) 7 ≤ max_schema_bytes + 1
    by true q = omega (arith, f.small c (ltb-true c max_declarations q))
    by false q = omega arith

pub link-length : (text starts sizes : List ℕ) → NamesAt text starts sizes → (c : ℕ) → length (link_at text starts sizes c) ≡ link_size sizes c
unfolding link_at link_size
link-length text starts sizes f c = by (ltb c max_declarations) refl
  where
    by : (b : Bool) → ltb c max_declarations ≡ b
        → length (bytes "/" ++ cond b (part (get_or starts c 0) (get_or sizes c 0) text) (bytes "text()")) ≡ cond b (get_or sizes c 0 + 1) 7
    by true q =
        omega (arith, f.inside c (ltb-true c max_declarations q), length-take (get_or sizes c 0) (drop (get_or starts c 0) text), length-drop (get_or starts c 0) text)
    by false q = refl

-- ---- chains
module _ (text starts sizes codes ps : List ℕ) where
  pub chain-root : chain_at text starts sizes codes ps 0 ≡ link_at text starts sizes (get_or codes 0 0)
  unfolding chain_at linked
  chain-root = ap (λ (l : List ℕ). linked (λ q. link_at text starts sizes (get_or codes q 0)) l ++ link_at text starts sizes (get_or codes 0 0)) (root-ancestors ps)

  pub chain-later : ParentsBefore ps → (r : ℕ) → 0 < r → r < length ps
      → chain_at text starts sizes codes ps r ≡ chain_at text starts sizes codes ps (get_or ps r 0) ++ link_at text starts sizes (get_or codes r 0)
  unfolding chain_at linked
  chain-later before r p l =
      ap (λ (x : List ℕ). linked (λ q. link_at text starts sizes (get_or codes q 0)) x ++ link_at text starts sizes (get_or codes r 0)) (later-ancestors ps before r p l)

  linked-length : NamesAt text starts sizes → (rs : List ℕ)
      → length (linked (λ q. link_at text starts sizes (get_or codes q 0)) rs) ≡ summed (λ q. link_size sizes (get_or codes q 0)) rs
  unfolding linked summed
  linked-length f [] = refl
  linked-length f (r ∷ rs) =
      length-append (linked (λ q. link_at text starts sizes (get_or codes q 0)) rs) (link_at text starts sizes (get_or codes r 0))
      ∙ ap₂ ◌+◌ (linked-length f rs) (link-length text starts sizes f (get_or codes r 0))

  pub chain_length : NamesAt text starts sizes → (r : ℕ) → length (chain_at text starts sizes codes ps r) ≡ chain_size sizes codes ps r
  unfolding chain_at chain_size
  chain_length f r = linked-length f (r ∷ ancestors_of ps r)

module _ (sizes codes ps : List ℕ) where
  pub size-root : chain_size sizes codes ps 0 ≡ link_size sizes (get_or codes 0 0)
  unfolding chain_size summed
  size-root =
      ap (λ (l : List ℕ). summed (λ q. link_size sizes (get_or codes q 0)) l + link_size sizes (get_or codes 0 0)) (root-ancestors ps) ∙ omega arith

  pub size-later : ParentsBefore ps → (r : ℕ) → 0 < r → r < length ps
      → chain_size sizes codes ps r ≡ chain_size sizes codes ps (get_or ps r 0) + link_size sizes (get_or codes r 0)
  unfolding chain_size summed
  size-later before r p l = ap (λ (x : List ℕ). summed (λ q. link_size sizes (get_or codes q 0)) x + link_size sizes (get_or codes r 0)) (later-ancestors ps before r p l)

-- ---- a link after the chain of the row above
module _ (text starts sizes codes ps : List ℕ) (row : ℕ) (was : List ℕ) (h : ChainPass text starts sizes codes ps row was) where
  pub chained-root : (n : ℕ) (out : List ℕ) → row ≡ 0 → n ≡ 0 + length (link_at text starts sizes (get_or codes 0 0)) → out ≡ sets was 0 (link_at text starts sizes (get_or codes 0 0))
      → Chained text starts sizes codes ps row was n out
  chained-root n out z c w =
      let e : chain_at text starts sizes codes ps row ≡ link_at text starts sizes (get_or codes 0 0) = ap (chain_at text starts sizes codes ps) z ∙ chain-root text starts sizes codes ps in
      record { counted = omega (arith, ap length e); written = w ∙ ap (sets was 0) (sym e) }

  pub chained-later : (at n : ℕ) (mid out : List ℕ) → (row ≡ 0 → ⊥) → Chained text starts sizes codes ps (get_or ps row 0) was at mid
      → n ≡ at + length (link_at text starts sizes (get_or codes row 0)) → out ≡ sets mid at (link_at text starts sizes (get_or codes row 0))
      → Chained text starts sizes codes ps row was n out
  chained-later at n mid out z c d w =
      let up = chain_at text starts sizes codes ps (get_or ps row 0) in
      let link = link_at text starts sizes (get_or codes row 0) in
      let e : chain_at text starts sizes codes ps row ≡ up ++ link = chain-later text starts sizes codes ps h.table.before row (omega arith) h.table.within in
      let place : at ≡ 0 + length up = omega (arith, c.counted) in
      record {
        counted = omega (arith, ap length e, length-append up link, c.counted);
        written =
            w ∙ ap₂ (λ (l : List ℕ) (k : ℕ). sets l k link) c.written place ∙ sym (sets-append was 0 up link) ∙ ap (sets was 0) (sym e);
      }

  pub pass-falls : (row ≡ 0 → ⊥) → (t : ℕ) → row ≡ t → get_or ps row 0 < t
  pass-falls z t e = omega (arith, h.table.before row (omega arith) h.table.within)

  pub pass_up : (row ≡ 0 → ⊥) → ChainPass text starts sizes codes ps (get_or ps row 0) was
  pass_up z =
      let l : get_or ps row 0 < row = h.table.before row (omega arith) h.table.within in
      record {
        named = h.named;
        table = record { fit = h.table.fit; before = h.table.before; size = h.table.size; few = h.table.few; within = omega (arith, h.table.within) };
        room = omega (arith, h.room, size-later sizes codes ps h.table.before row (omega arith) h.table.within);
      }

  pub pass-link : (at : ℕ) (mid : List ℕ) → (row ≡ 0 → ⊥) → Chained text starts sizes codes ps (get_or ps row 0) was at mid
      → LinkPass text starts sizes (get_or codes row 0) mid at
  pass-link at mid z c =
      record {
        named = h.named;
        room =
            omega (
              arith,
              h.room,
              size-later sizes codes ps h.table.before row (omega arith) h.table.within,
              c.counted,
              chain_length text starts sizes codes ps h.named (get_or ps row 0),
              ap length c.written,
              length-sets was 0 (chain_at text starts sizes codes ps (get_or ps row 0)),
            );
      }

  pub pass-root : row ≡ 0 → LinkPass text starts sizes (get_or codes 0 0) was 0
  pass-root z = record { named = h.named; room = omega (arith, h.room, ap (chain_size sizes codes ps) z, size-root sizes codes ps) }
