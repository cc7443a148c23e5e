-- The loops: the climb that measures a chain, and the sizes of the names.
use mathlib.Core.List.{List, [], ◌∷◌, map}
use mathlib.Core.Path.{◌≡◌, refl, sym, ap, ◌∙◌}
use Prim.Native.Nat.{ℕ, zero, suc, ◌+◌, ◌*◌, ◌-◌, ◌≤◌, ◌<◌}
use native.Mathlib.Omega.{arith}
use lib.ListN.{length, get_or, length-map}
use lib.Seq.{ext_get_or}
use Rattle.chains.specs.tags.Chains.{link_size, chain_size, SizePass, link-small, size-root, size-later}
use Rattle.text_laws.specs.Loops.{Passed}
use Rattle.text_spec.specs.Limits.{max_nodes, max_schema_bytes}
use Rattle.text_spec.specs.Scans.{name_at}

-- row r is reached, and n bytes are counted for the rows below it
pub record Climbing (sizes codes ps : List ℕ) (row n r : ℕ) : Type 0 where
  pub low : r ≤ row
  pub few : n ≤ (max_schema_bytes + 1) * (row - r)
  pub total : n + chain_size sizes codes ps r ≡ chain_size sizes codes ps row

pub climbing-first : (sizes codes ps : List ℕ) (row : ℕ) → Climbing sizes codes ps row 0 row
climbing-first sizes codes ps row = record { low = omega arith; few = omega arith; total = omega arith }

pub climbing-next : (sizes codes ps : List ℕ) (row n r k : ℕ) → SizePass sizes codes ps row → Climbing sizes codes ps row n r → (r ≡ 0 → ⊥)
    → k ≡ link_size sizes (get_or codes r 0) → (get_or ps r 0 < r) × Climbing sizes codes ps row (n + k) (get_or ps r 0)
climbing-next sizes codes ps row n r k h w z e =
    let inside : r < length ps = omega (arith, h.within, w.low) in
    let down : get_or ps r 0 < r = h.before r (omega arith) inside in (
      down,
      record {
        low = omega (arith, w.low);
        few = omega (arith, w.few, link-small sizes h.fit (get_or codes r 0), w.low);
        total = omega (arith, w.total, size-later sizes codes ps h.before r (omega arith) inside);
      },
    )

-- the sum of the bytes fits
pub climbing-fits : (sizes codes ps : List ℕ) (row n r k c : ℕ) → SizePass sizes codes ps row → Climbing sizes codes ps row n r → k ≡ link_size sizes c
    → n + k ≤ (max_schema_bytes + 1) * (max_nodes + 1)
climbing-fits sizes codes ps row n r k c h w e = omega (arith, w.few, link-small sizes h.fit c, h.few, h.within)

pub climbing-all : (sizes codes ps : List ℕ) (row n r k : ℕ) → Climbing sizes codes ps row n r → r ≡ 0 → k ≡ link_size sizes (get_or codes 0 0)
    → n + k ≡ chain_size sizes codes ps row
climbing-all sizes codes ps row n r k w z e = omega (arith, w.total, ap (chain_size sizes codes ps) z, size-root sizes codes ps)

-- the sizes of the names before e are found
abbrev pub IsSize : List ℕ → List ℕ → ℕ → ℕ → Type 0
IsSize text names j x = x ≡ length (name_at text (get_or names j 0))

pub sizes-all : (text names was : List ℕ) (e : ℕ) (sizes : List ℕ) → e ≡ length names → length sizes ≡ length names → Passed (IsSize text names) 0 was e sizes → sizes ≡ map (λ p. length (name_at text p)) names
sizes-all text names was e sizes end long w =
    ext_get_or 0 sizes (map (λ p. length (name_at text p)) names) (long ∙ sym (length-map names (λ p. length (name_at text p))))
    (λ j b. w.done j (omega (arith, long, end)) ∙ sym (mapped names j (omega (arith, long))))
  where
    mapped : (xs : List ℕ) (j : ℕ) → j < length xs → get_or (map (λ p. length (name_at text p)) xs) j 0 ≡ length (name_at text (get_or xs j 0))
    mapped [] j h = absurd (omega arith)
    mapped (x ∷ xs) zero h = refl
    mapped (x ∷ xs) (suc j) h = mapped xs j (omega arith)
