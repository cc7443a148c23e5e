-- Laws of names by their places: compared byte by byte, sought among others.
use Rattle.std.specs.Prelude.{Bool, true, false, cond, ◌&&◌, List, [], ◌∷◌, map, ◌⊎◌, ◌≡◌, refl, ℕ, suc, ◌+◌, ◌≤◌, ◌<◌, eqb, ltb, length, drop, get_or}
use Rattle.std.proofs.Common.{inl, inr, sym, ap, ◌∙◌, add-one, arith, ltb-true, ltb-false, eq-eqb, ne_eqb, drop_of_length-le, drop-cons}
use Rattle.std.proofs.Math.Option.{none, some}
use Rattle.schema_spec.specs.Schemas.{index_from}
use Rattle.text_laws.specs.Scans.{name-cons, name-stops}
use Rattle.text_laws.specs.Tests.{never, cond_yes, cond_no}
use Rattle.text_spec.specs.Bytes.{continues_name}
use Rattle.text_spec.specs.Lists.{first, value_or, same_bytes}
use Rattle.text_spec.specs.Scans.{byte_at, name_at}
use Rattle.text.specs.name_bytes.Names.{name_byte}

abbrev head : List ℕ → ℕ
head n = value_or 0 (first n)

-- ---- the name at a place: over, or a byte and the name after it
data View (s : List ℕ) (i : ℕ) : Type 0 where
  over : name_at s i ≡ [] → View s i
  byte : (b : ℕ) → i < length s → (b ≡ 0 → ⊥) → name_at s i ≡ b ∷ name_at s (i + 1) → View s i

continues-not-zero : (b : ℕ) → continues_name b ≡ true → b ≡ 0 → ⊥
continues-not-zero b e z = let y : continues_name 0 ≡ true = ap continues_name (sym z) ∙ e in never (cc)

view : (s : List ℕ) (i : ℕ) → View s i
view s i = go (ltb i (length s)) refl
  where
    inside : i < length s → (t : Bool) → continues_name (byte_at s i) ≡ t → View s i
    inside h true e = byte (byte_at s i) h (continues-not-zero (byte_at s i) e) (name-cons s i h e)
    inside h false e = over (name-stops s i (λ _. e))

    go : (t : Bool) → ltb i (length s) ≡ t → View s i
    go true e = inside (ltb-true i (length s) e) (continues_name (byte_at s i)) refl
    go false e = over (name-stops s i (λ h. absurd (omega (arith, ltb-false i (length s) e))))

module _ (s : List ℕ) (i : ℕ) where
  pub byte-none : (i < length s → continues_name (byte_at s i) ≡ false) → 0 ≡ name_byte s i
  byte-none e = sym (ap head (name-stops s i e))

  pub byte-there : i < length s → continues_name (byte_at s i) ≡ true → byte_at s i ≡ name_byte s i
  byte-there h e = sym (ap head (name-cons s i h e))

  -- the name, by its first byte a
  module _ {a : ℕ} (e : a ≡ name_byte s i) where
    pub byte-over : a ≡ 0 → name_at s i ≡ []
    byte-over h = go (view s i)
      where
        go : View s i → name_at s i ≡ []
        go (over n) = n
        go (byte b l z n) = absurd (z (sym (ap head n) ∙ sym e ∙ h))

    pub byte-on : (a ≡ 0 → ⊥) → (i < length s) × (length (name_at s i) ≡ suc (length (name_at s (i + 1))))
    byte-on h = go (view s i)
      where
        go : View s i → (i < length s) × (length (name_at s i) ≡ suc (length (name_at s (i + 1))))
        go (over n) = absurd (h (e ∙ ap head n))
        go (byte b l z n) = (l, ap length n)

-- ---- two names, by their first bytes a and b and what follows
module _ (s : List ℕ) (i : ℕ) (t : List ℕ) (j : ℕ) {a b : ℕ} (x : a ≡ name_byte s i) (y : b ≡ name_byte t j) where
  by_bytes : same_bytes (name_at s i) (name_at t j) ≡ cond (eqb a 0) (eqb b 0) (eqb a b && same_bytes (name_at s (i + 1)) (name_at t (j + 1)))
  by_bytes = go (view s i) (view t j)
    where
      go : View s i → View t j → same_bytes (name_at s i) (name_at t j) ≡ cond (eqb a 0) (eqb b 0) (eqb a b && same_bytes (name_at s (i + 1)) (name_at t (j + 1)))
      go (over m) (over n) = rw (x, y, m, n)
      go (over m) (byte d l z n) = rw (x, y, m, n, ne_eqb d 0 z)
      go (byte c k w m) (over n) = rw (x, y, m, n, ne_eqb c 0 w)
      go (byte c k w m) (byte d l z n) = rw (x, y, m, n, ne_eqb c 0 w)

  pub same_ended : a ≡ 0 → eqb b 0 ≡ same_bytes (name_at s i) (name_at t j)
  same_ended e = sym (by_bytes ∙ cond_yes (eqb b 0) _ (eq-eqb a 0 e))

  module _ (e : a ≡ 0 → ⊥) where
    pub same_not : (a ≡ b → ⊥) → false ≡ same_bytes (name_at s i) (name_at t j)
    same_not f = sym (by_bytes ∙ cond_no (eqb b 0) _ (ne_eqb a 0 e) ∙ rw (ne_eqb a b f))

    pub same-on : a ≡ b → same_bytes (name_at s i) (name_at t j) ≡ same_bytes (name_at s (i + 1)) (name_at t (j + 1))
    same-on f = by_bytes ∙ cond_no (eqb b 0) _ (ne_eqb a 0 e) ∙ rw (eq-eqb a b f)

-- ---- two names, by the bytes of the texts, where the first is not over
view-byte : (s : List ℕ) (j : ℕ) → (name_byte s j ≡ 0) ⊎ ((j < length s) × (byte_at s j ≡ name_byte s j))
view-byte s j = go (ltb j (length s)) refl
  where
    inside : j < length s → (c : Bool) → continues_name (byte_at s j) ≡ c → (name_byte s j ≡ 0) ⊎ ((j < length s) × (byte_at s j ≡ name_byte s j))
    inside l true e = inr (l, byte-there s j l e)
    inside l false e = inl (sym (byte-none s j (λ _. e)))

    go : (c : Bool) → ltb j (length s) ≡ c → (name_byte s j ≡ 0) ⊎ ((j < length s) × (byte_at s j ≡ name_byte s j))
    go true e = inside (ltb-true j (length s) e) (continues_name (byte_at s j)) refl
    go false e = inl (sym (byte-none s j (λ l. absurd (omega (arith, ltb-false j (length s) e)))))

name-left : (t : List ℕ) (i : ℕ) → 0 < length (name_at t i) → (i < length t) × (continues_name (byte_at t i) ≡ true)
name-left t i h = go (ltb i (length t)) refl
  where
    inside : i < length t → (c : Bool) → continues_name (byte_at t i) ≡ c → (i < length t) × (continues_name (byte_at t i) ≡ true)
    inside l true e = (l, e)
    inside l false e = let z = ap length (name-stops t i (λ _. e)) in absurd (omega arith)

    go : (c : Bool) → ltb i (length t) ≡ c → (i < length t) × (continues_name (byte_at t i) ≡ true)
    go true e = inside (ltb-true i (length t) e) (continues_name (byte_at t i)) refl
    go false e =
        let z = ap length (name-stops t i (λ l. absurd (omega (arith, ltb-false i (length t) e)))) in
        absurd (omega arith)

module _ (t : List ℕ) (i : ℕ) (s : List ℕ) (j : ℕ) (left : 0 < length (name_at t i)) where
  first_byte : byte_at t i ≡ name_byte t i
  first_byte = byte-there t i (name-left t i left).0 (name-left t i left).1

  not-over : byte_at t i ≡ 0 → ⊥
  not-over = continues-not-zero (byte_at t i) (name-left t i left).1

  pub name-goes-on : (i < length t) × (length (name_at t i) ≡ suc (length (name_at t (i + 1))))
  name-goes-on = byte-on t i first_byte not-over

  pub names-differ : (j < length s → byte_at t i ≡ byte_at s j → ⊥) → false ≡ same_bytes (name_at t i) (name_at s j)
  names-differ h = same_not t i s j first_byte refl not-over (λ e. go (view-byte s j) e)
    where
      go : (name_byte s j ≡ 0) ⊎ ((j < length s) × (byte_at s j ≡ name_byte s j)) → byte_at t i ≡ name_byte s j → ⊥
      go (inl z) e = not-over (e ∙ z)
      go (inr x) e = h x.0 (e ∙ sym x.1)

  pub names-agree : j < length s → byte_at t i ≡ byte_at s j → same_bytes (name_at t i) (name_at s j) ≡ same_bytes (name_at t (i + 1)) (name_at s (j + 1))
  names-agree l e =
      same-on t i s j first_byte (byte-there s j l (ap continues_name (sym e) ∙ (name-left t i left).1)) not-over e

pub names-ended : (t : List ℕ) (i : ℕ) (s : List ℕ) (j : ℕ) {b : ℕ} → length (name_at t i) ≡ 0 → b ≡ name_byte s j → eqb b 0 ≡ same_bytes (name_at t i) (name_at s j)
names-ended t i s j h y = same_ended t i s j (go (view t i)) y refl
  where
    go : View t i → 0 ≡ name_byte t i
    go (over n) = sym (ap head n)
    go (byte c l z n) = let m = ap length n in absurd (omega arith)

-- ---- the first of some names that is n
module _ (s ps n : List ℕ) (i : ℕ) where
  index-cons : i < length ps
      → index_from i n (map (name_at s) (drop i ps)) ≡ cond (same_bytes n (name_at s (get_or ps i 0))) (some i) (index_from (i + 1) n (map (name_at s) (drop (i + 1) ps)))
  index-cons h = ap (λ (l : List ℕ). index_from i n (map (name_at s) l)) (drop-cons ps i 0 h) ∙ rw (add-one i)

  pub index-here : i < length ps → same_bytes n (name_at s (get_or ps i 0)) ≡ true → index_from i n (map (name_at s) (drop i ps)) ≡ some i
  index-here h e = index-cons h ∙ cond_yes (some i) _ e

  pub index-later : i < length ps → same_bytes n (name_at s (get_or ps i 0)) ≡ false
      → index_from i n (map (name_at s) (drop i ps)) ≡ index_from (i + 1) n (map (name_at s) (drop (i + 1) ps))
  index-later h e = index-cons h ∙ cond_no (some i) _ e

  pub index-none : length ps ≤ i → index_from i n (map (name_at s) (drop i ps)) ≡ none
  index-none h = ap (λ (l : List ℕ). index_from i n (map (name_at s) l)) (drop_of_length-le ps h)
