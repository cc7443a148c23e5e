-- Laws of names as slices: how long one is, when one stands at a place, and what is no name.
use Rattle.std.specs.Prelude.{Bool, true, false, cond, ◌&&◌, List, [], ◌∷◌, map, ◌≡◌, refl, ℕ, suc, ◌+◌, eqb, length, drop, take}
use Rattle.std.specs.Cmp.Lexicographic.{pointwise}
use Rattle.std.specs.List.{prefix_len}
use Rattle.std.proofs.Common.{sym, ap, ◌∙◌, arith, eqb-true, ne_eqb}
use Rattle.std.proofs.Math.Option.{none, some}
use Rattle.schema_spec.specs.Schemas.{index_from}
use Rattle.text_laws.specs.Lists.{bytes-equal}
use Rattle.text_laws.specs.Tests.{false_of, cond_yes, cond_no}
use Rattle.text_spec.specs.Bytes.{continues_name}
use Rattle.text_spec.specs.Lists.{same_bytes}
use Rattle.text_spec.specs.Scans.{name_in, name_at}
use Rattle.text.specs.name_bytes.Names.{IsName}

-- a name is as many bytes as go on as one
pub name-prefix : (t : List ℕ) → take (prefix_len continues_name t) t ≡ name_in t
name-prefix [] = refl
name-prefix (b ∷ t) = go (continues_name b) (name-prefix t)
  where
    go : (c : Bool) → take (prefix_len continues_name t) t ≡ name_in t → take (cond c (1 + prefix_len continues_name t) 0) (b ∷ t) ≡ cond c (b ∷ name_in t) []
    go true h =
        let e : 1 + prefix_len continues_name t ≡ suc (prefix_len continues_name t) = omega arith in
        rw e (ap (λ (l : List ℕ). b ∷ l) h)
    go false h = refl

-- a name is a name to its end
pub name-again : (t : List ℕ) → IsName (name_in t)
name-again [] = refl
name-again (b ∷ t) = go (continues_name b) refl (name-again t)
  where
    go : (c : Bool) → continues_name b ≡ c → name_in (name_in t) ≡ name_in t → name_in (cond c (b ∷ name_in t) []) ≡ cond c (b ∷ name_in t) []
    go true e h = cond_yes (b ∷ name_in (name_in t)) [] e ∙ ap (λ (l : List ℕ). b ∷ l) h
    go false e h = refl

-- a slice of which all bytes are those of its name is that name
pub name-whole : (t : List ℕ) → length (name_in t) ≡ length t → IsName t
name-whole [] e = refl
name-whole (b ∷ t) e = go (continues_name b) e (name-whole t)
  where
    go : (c : Bool) → length (cond c (b ∷ name_in t) []) ≡ suc (length t) → (length (name_in t) ≡ length t → name_in t ≡ t)
        → cond c (b ∷ name_in t) [] ≡ b ∷ t
    go true f h = ap (λ (l : List ℕ). b ∷ l) (h (omega arith))
    go false f h = absurd (omega arith)

-- any other slice is no name of a text
module _ (t : List ℕ) (e : length (name_in t) ≡ length t → ⊥) (s : List ℕ) where
  no_name : (p : ℕ) → same_bytes t (name_at s p) ≡ false
  no_name p =
      false_of (same_bytes t (name_at s p)) (λ y.
      let q : t ≡ name_at s p = bytes-equal t (name_at s p) y in
      e (ap length (ap name_in q ∙ name-again (drop p s) ∙ sym q)))

  pub never-found : (k : ℕ) (ps : List ℕ) → index_from k t (map (name_at s) ps) ≡ none
  never-found k [] = refl
  never-found k (p ∷ ps) = cond_no (some k) _ (no_name p) ∙ never-found (suc k) ps

-- ---- a name at the start of a text: its bytes, and then no name
-- slices are compared by `==` as the definitions compare texts
pub slices-same : (u v : List ℕ) → pointwise eqb u v ≡ same_bytes u v
slices-same [] [] = refl
slices-same [] (y ∷ v) = refl
slices-same (x ∷ u) [] = refl
slices-same (x ∷ u) (y ∷ v) = ap (λ (t : Bool). eqb x y && t) (slices-same u v)

none-same : (v : List ℕ) → same_bytes [] v ≡ eqb (length v) 0
none-same [] = refl
none-same (x ∷ v) = sym (ne_eqb (suc (length v)) 0 (λ e. absurd (omega arith)))

name-cons : (a : ℕ) (n : List ℕ) → IsName (a ∷ n) → (continues_name a ≡ true) × IsName n
name-cons a n = pick (continues_name a) refl
  where
    pick : (t : Bool) → continues_name a ≡ t → cond t (a ∷ name_in n) [] ≡ a ∷ n → (continues_name a ≡ true) × IsName n
    pick true e h = (e, cc)
    pick false e h = cc

pub named-start : (n t : List ℕ) → IsName n → same_bytes n (name_in t) ≡ (same_bytes n (take (length n) t) && eqb (length (name_in (drop (length n) t))) 0)
named-start [] t e = none-same (name_in t)
named-start (a ∷ n) [] e = refl
named-start (a ∷ n) (b ∷ t) e = pick (eqb a b) refl (name-cons a n e) (named-start n t)
  where
    differ : (c : Bool) → eqb a b ≡ false → same_bytes (a ∷ n) (cond c (b ∷ name_in t) []) ≡ false
    differ true f = ap (λ (x : Bool). x && same_bytes n (name_in t)) f
    differ false f = refl

    pick : (x : Bool) → eqb a b ≡ x → (continues_name a ≡ true) × IsName n → (IsName n → same_bytes n (name_in t) ≡ (same_bytes n (take (length n) t) && eqb (length (name_in (drop (length n) t))) 0))
        → same_bytes (a ∷ n) (cond (continues_name b) (b ∷ name_in t) []) ≡ ((eqb a b && same_bytes n (take (length n) t)) && eqb (length (name_in (drop (length n) t))) 0)
    pick true f g h =
        let here : continues_name b ≡ true = ap continues_name (sym (eqb-true a b f)) ∙ g.0 in
        ap (λ (c : Bool). same_bytes (a ∷ n) (cond c (b ∷ name_in t) [])) here ∙ ap (λ (x : Bool). x && same_bytes n (name_in t)) f ∙ h g.1
        ∙ sym (ap (λ (x : Bool). (x && same_bytes n (take (length n) t)) && eqb (length (name_in (drop (length n) t))) 0) f)
    pick false f g h = differ (continues_name b) f ∙ sym (ap (λ (x : Bool). (x && same_bytes n (take (length n) t)) && eqb (length (name_in (drop (length n) t))) 0) f)
