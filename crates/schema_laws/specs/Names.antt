-- Laws of names and of sets of them: equality and membership are decided, and which names a schema has.
use Rattle.std.specs.Prelude.{Bool, true, false, cond, ◌⊎◌, ◌≡◌, ℕ, zero, suc, ◌+◌, ◌≤◌, ◌<◌, T, length}
use mathlib.Core.List.Memᴰ.{append_cases}
use mathlib.Core.List.Memᴰ.{append_left}
use mathlib.Core.List.Memᴰ.{append_right}
use mathlib.Core.List.Memᴰ.{head as here}
use mathlib.Core.List.Memᴰ.{tail as there}
use mathlib.Core.List.{[], ◌∷◌, Memᴰ as In}
use Rattle.std.proofs.Common.{inl, inr, ⊎_elim, sym, ap, subst, ◌∙◌, add-zero, arith, eqb→eq}
use Rattle.std.proofs.Math.Dec.{eqb_refl}
use Rattle.schema_laws.specs.Lists.{Distinct, none-twice, next, distinct_append}
use Rattle.schema_spec.specs.Names.{Name, Names, element, text, same_name, has, within, elements_from, texts_from, names_of}
use Rattle.schema_spec.specs.Schemas.{Schema, content_at, is_pcdata}
use Rattle.text_laws.specs.Lists.{any-in, in-any, in-filter, filter-in}
use Rattle.text_laws.specs.Tests.{never}

-- `same_name` tells equal names
pub same-equal : (a b : Name) → T (same_name a b) → a ≡ b
same-equal (element a) (element b) t = ap element (eqb→eq a b t)
same-equal (element a) (text b) t = absurd t
same-equal (text a) (element b) t = absurd t
same-equal (text a) (text b) t = ap text (eqb→eq a b t)

pub same-name : (a : Name) → T (same_name a a)
same-name (element a) = eqb_refl a
same-name (text a) = eqb_refl a

-- `has` tells members
pub has_in : (n : Name) (s : Names) → T (has n s) → In n s
has_in n s t =
    let r = in-any (same_name n) s t in
    subst (λ (m : Name). In m s) (sym (same-equal n r.0 r.2)) r.1

pub in-has : {n : Name} {s : Names} → In n s → T (has n s)
in-has {n} i = any-in (same_name n) i (same-name n)

-- what is in both sets, and nothing else, is in `within`
pub in_within : {n : Name} {a b : Names} → In n a → In n b → In n (within a b)
in_within {b = b} i j = in-filter (λ n. has n b) i (in-has j)

pub within_in : {n : Name} (a b : Names) → In n (within a b) → In n a × In n b
within_in {n} a b i =
    let r = filter-in (λ n. has n b) a i in
    (r.0, has_in n b r.1)

-- the names of a schema whose elements are counted from k
element-from : (s : Schema) (k i : ℕ) → i < length s → In (element (k + i)) (elements_from k s)
element-from [] k i h = absurd (omega arith)
element-from (e ∷ s) k zero h = here (ap element (add-zero k))
element-from (e ∷ s) k (suc i) h =
    there (subst (λ (j : ℕ). In (element j) (elements_from (suc k) s)) (omega arith) (element-from s (suc k) i (omega arith)))

from-element : (s : Schema) (k e : ℕ) → In (element e) (elements_from k s) → (k ≤ e) × (e < k + length s)
from-element [] k e i = elim i [ ]
from-element (x ∷ s) k e (here q) =
    let z : e ≡ k = cc in
    (omega arith, omega arith)
from-element (x ∷ s) k e (there i) =
    let r = from-element s (suc k) e i in
    (omega arith, omega arith)

not-text-from : (s : Schema) (k e : ℕ) → In (text e) (elements_from k s) → ⊥
not-text-from [] k e i = elim i [ ]
not-text-from (x ∷ s) k e (here q) =
    never (cc)
not-text-from (x ∷ s) k e (there i) = not-text-from s (suc k) e i

-- an element with character data is one of the schema's
pub pcdata-declared : (s : Schema) (i : ℕ) → T (is_pcdata (content_at s i)) → i < length s
pcdata-declared [] i t = absurd t
pcdata-declared (e ∷ s) zero t = omega arith
pcdata-declared (e ∷ s) (suc i) t =
    let r = pcdata-declared s i t in
    omega arith

text-first : (b : Bool) (k : ℕ) (ns : Names) → T b → In (text (k + 0)) (cond b (text k ∷ ns) ns)
text-first true k ns t = here (ap text (add-zero k))
text-first false k ns t = absurd t

text-later : (b : Bool) (k : ℕ) {j : ℕ} {ns : Names} → In (text j) ns → In (text j) (cond b (text k ∷ ns) ns)
text-later true k i = there i
text-later false k i = i

text-cases : (b : Bool) {k j : ℕ} {ns : Names} → In (text j) (cond b (text k ∷ ns) ns) → (T b × (j ≡ k)) ⊎ In (text j) ns
text-cases true (here e) = inl (tt, cc)
text-cases true (there i) = inr i
text-cases false i = inr i

text-from : (s : Schema) (k i : ℕ) → T (is_pcdata (content_at s i)) → In (text (k + i)) (texts_from k s)
text-from [] k i t = absurd t
text-from (e ∷ s) k zero t = text-first (is_pcdata e.content) k (texts_from (suc k) s) t
text-from (e ∷ s) k (suc i) t =
    text-later (is_pcdata e.content) k (subst (λ (j : ℕ). In (text j) (texts_from (suc k) s)) (omega arith) (text-from s (suc k) i t))

from-text : (s : Schema) (k e : ℕ) → In (text e) (texts_from k s) → (i : ℕ) × (e ≡ k + i) × T (is_pcdata (content_at s i))
from-text [] k e i = elim i [ ]
from-text (x ∷ s) k e i =
    ⊎_elim (λ h. (0, h.1 ∙ sym (add-zero k), h.0))
    (λ j.
    let r = from-text s (suc k) e j in
    (suc r.0, omega arith, r.2)) (text-cases (is_pcdata x.content) i)

not-element-from : (s : Schema) (k e : ℕ) → In (element e) (texts_from k s) → ⊥
not-element-from [] k e i = elim i [ ]
not-element-from (x ∷ s) k e i = pick (is_pcdata x.content) i (not-element-from s (suc k) e)
  where
    pick : (b : Bool) → In (element e) (cond b (text k ∷ texts_from (suc k) s) (texts_from (suc k) s)) → (In (element e) (texts_from (suc k) s) → ⊥) → ⊥
    pick true (here q) h =
        never (cc)
    pick true (there j) h = h j
    pick false j h = h j

-- a schema has element e exactly if e is one of its indices
pub element-in : (s : Schema) (e : ℕ) → e < length s → In (element e) (names_of s)
unfolding names_of
element-in s e h = append_left (texts_from 0 s) (subst (λ (j : ℕ). In (element j) (elements_from 0 s)) (omega arith) (element-from s 0 e h))

pub in-element : (s : Schema) (e : ℕ) → In (element e) (names_of s) → e < length s
unfolding names_of
in-element s e i =
    ⊎_elim (λ j.
    let r = from-element s 0 e j in
    omega arith) (λ j. absurd (not-element-from s 0 e j)) (append_cases (elements_from 0 s) i)

-- and the text name of e exactly if its content is character data
pub text_in : (s : Schema) (e : ℕ) → T (is_pcdata (content_at s e)) → In (text e) (names_of s)
unfolding names_of
text_in s e t = append_right (elements_from 0 s) (subst (λ (j : ℕ). In (text j) (texts_from 0 s)) (omega arith) (text-from s 0 e t))

pub in-text : (s : Schema) (e : ℕ) → In (text e) (names_of s) → (e < length s) × T (is_pcdata (content_at s e))
unfolding names_of
in-text s e i = ⊎_elim (λ j. absurd (not-text-from s 0 e j)) known (append_cases (elements_from 0 s) i)
  where
    known : In (text e) (texts_from 0 s) → (e < length s) × T (is_pcdata (content_at s e))
    known j =
        let r = from-text s 0 e j in
        let q : r.0 ≡ e = omega arith in
        let t = subst (λ (i : ℕ). T (is_pcdata (content_at s i))) q r.2 in
        (pcdata-declared s e t, t)

-- no name stands twice among those of a schema
elements-distinct : (s : Schema) (k : ℕ) → Distinct (elements_from k s)
elements-distinct [] k = none-twice
elements-distinct (e ∷ s) k =
    next (λ i.
    let r = from-element s (suc k) k i in
    omega arith) (elements-distinct s (suc k))

texts-distinct : (s : Schema) (k : ℕ) → Distinct (texts_from k s)
texts-distinct [] k = none-twice
texts-distinct (e ∷ s) k = pick (is_pcdata e.content) (texts-distinct s (suc k))
  where
    pick : (b : Bool) → Distinct (texts_from (suc k) s) → Distinct (cond b (text k ∷ texts_from (suc k) s) (texts_from (suc k) s))
    pick true h =
        next (λ i.
        let r = from-text s (suc k) k i in
        omega arith) h
    pick false h = h

pub names-distinct : (s : Schema) → Distinct (names_of s)
unfolding names_of
names-distinct s = distinct_append (elements-distinct s 0) (texts-distinct s 0) apart
  where
    apart : (n : Name) → In n (elements_from 0 s) → In n (texts_from 0 s) → ⊥
    apart (element e) i j = not-element-from s 0 e j
    apart (text e) i j = not-text-from s 0 e i
