-- An element is found by its name: the index that a name gives is that of the element with this name.
use Rattle.std.specs.Prelude.{Bool, true, false, cond, ◌↔◌, ◌≡◌, refl, ℕ, zero, suc, ◌+◌, ◌<◌, T, length}
use mathlib.Core.List.Memᴰ.{head as here}
use mathlib.Core.List.Memᴰ.{tail as there}
use mathlib.Core.List.{List, [], ◌∷◌, Memᴰ as In}
use Rattle.std.proofs.Math.Option.{Option, none, some}
use Rattle.std.proofs.Common.{sym, ap, subst, ◌∙◌, add-zero, arith}
use Rattle.schema_laws.specs.Accepted.{element_names}
use Rattle.schema_laws.specs.Lists.{Distinct, next}
use Rattle.schema_spec.specs.Schemas.{Schema, Element, index_from, element_named, name_at}
use Rattle.text_laws.specs.Lists.{bytes-equal, bytes_same}
use Rattle.text_laws.specs.Tests.{passed, failed, true_of, false_of, never}
use Rattle.text_spec.specs.Lists.{same_bytes}

-- a name that is found counting from k stands at that index
index-found : (k : ℕ) (n : List ℕ) (s : Schema) (a : ℕ) → index_from k n (element_names s) ≡ some a → (i : ℕ) × (a ≡ k + i) × (i < length s) × (name_at s i ≡ n)
index-found k n [] a e = never (cc)
index-found k n (x ∷ s) a e = pick (same_bytes n x.name) refl e (index-found (suc k) n s a)
  where
    pick : (b : Bool) → same_bytes n x.name ≡ b → cond b (some k) (index_from (suc k) n (element_names s)) ≡ some a
        → (index_from (suc k) n (element_names s) ≡ some a → (i : ℕ) × (a ≡ suc k + i) × (i < length s) × (name_at s i ≡ n))
        → (i : ℕ) × (a ≡ k + i) × (i < length (x ∷ s)) × (name_at (x ∷ s) i ≡ n)
    pick true q e h =
        let z : k ≡ a = cc in
        (0, omega arith, omega arith, sym (bytes-equal n x.name (passed q)))
    pick false q e h =
        let r = h e in
        (suc r.0, omega arith, omega arith, r.3)

pub named-at : (s : Schema) (n : List ℕ) (a : ℕ) → element_named s n ≡ some a → (a < length s) × (name_at s a ≡ n)
unfolding element_named
named-at s n a e =
    let r = index-found 0 n s a e in
    let z : r.0 ≡ a = omega arith in
    (omega arith, subst (λ (i : ℕ). name_at s i ≡ n) z r.3)

not_found : (k : ℕ) (n : List ℕ) (s : Schema) → index_from k n (element_names s) ≡ none → (x : Element) → In x s → x.name ≡ n → ⊥
not_found k n [] e x i q = elim i [ ]
not_found k n (y ∷ s) e x i q = pick (same_bytes n y.name) refl e i (λ h j. not_found (suc k) n s h x j q)
  where
    pick : (b : Bool) → same_bytes n y.name ≡ b → cond b (some k) (index_from (suc k) n (element_names s)) ≡ none → In x (y ∷ s)
        → (index_from (suc k) n (element_names s) ≡ none → In x s → ⊥) → ⊥
    pick true c e j h =
        never (cc)
    pick false c e (here z) h =
        let w : y.name ≡ n = sym (ap (λ (v : Element). v.name) z) ∙ q in
        failed c (subst (λ (m : List ℕ). T (same_bytes n m)) (sym w) (bytes_same n))
    pick false c e (there j) h = h e j

-- where no index is found, no element has the name
pub not_named : (s : Schema) (n : List ℕ) → element_named s n ≡ none → (x : Element) → In x s → x.name ≡ n → ⊥
unfolding element_named
not_named s n e x i q = not_found 0 n s e x i q

name_in : (s : Schema) (a : ℕ) → a < length s → In (name_at s a) (element_names s)
name_in [] a h = absurd (omega arith)
name_in (x ∷ s) zero h = here refl
name_in (x ∷ s) (suc a) h = there (name_in s a (omega arith))

finds : (k : ℕ) (s : Schema) (a : ℕ) → Distinct (element_names s) → a < length s → index_from k (name_at s a) (element_names s) ≡ some (k + a)
finds k [] a d h = absurd (omega arith)
finds k (x ∷ s) zero d h = rw (true_of (same_bytes x.name x.name) (bytes_same x.name), add-zero)
finds k (x ∷ s) (suc a) (next n d) h =
    let f : (same_bytes (name_at s a) x.name) ≡ false = false_of (same_bytes (name_at s a) x.name) (λ t. n (subst (λ (m : List ℕ). In m (element_names s)) (bytes-equal (name_at s a) x.name t) (name_in s a (omega arith)))) in
    rw f (finds (suc k) s a d (omega arith) ∙ ap {B = Option ℕ} some (omega arith))

-- each element is found by its own name
pub at_named : (s : Schema) (a : ℕ) → Distinct (element_names s) → a < length s → element_named s (name_at s a) ≡ some a
unfolding element_named
at_named s a d h = finds 0 s a d h ∙ ap {B = Option ℕ} some (omega arith)

-- a name gives an index exactly if the element with this index has the name
pub named-exactly : (s : Schema) (n : List ℕ) (a : ℕ) → Distinct (element_names s) → (element_named s n ≡ some a) ↔ ((a < length s) × (name_at s a ≡ n))
named-exactly s n a d = (named-at s n a, λ h. subst (λ (m : List ℕ). element_named s m ≡ some a) h.1 (at_named s a d h.0))
