-- Sets of names as 64 bits: a set that is handed back and in again is the same, and bits without a name mean nothing.
use Rattle.std.specs.Prelude.{Bool, true, false, cond, ◌⊎◌, ◌≡◌, refl, ℕ, zero, suc, ◌+◌, ◌-◌, ◌*◌, ◌/◌, ◌%◌, ◌^◌, ◌≤◌, ◌<◌, T, eqb, ltb, length}
use mathlib.Core.List.Memᴰ.{cases_cons}
use mathlib.Core.List.Memᴰ.{head as here}
use mathlib.Core.List.Memᴰ.{tail as there}
use mathlib.Core.List.{[], ◌∷◌, map, Memᴰ as In}
use Rattle.std.proofs.Common.{inl, inr, ⊎_elim, sym, ap, subst, ◌∙◌, div-one, arith, eqb→eq, ltb→lt, lt→ltb, nltb→le, pow-add}
use Rattle.std.proofs.Math.Option.{none, some}
use Rattle.std.proofs.Math.Nat.{pow-succ', div-div-eq-div-mul, zero-div}
use Rattle.std.proofs.Math.Dec.{eqb_refl, not_T}
use Rattle.schema_laws.specs.Lists.{Distinct, next, distinct_filter, distinct-map}
use Rattle.schema_laws.specs.Names.{has_in, in-has, in-element, in-text, names-distinct}
use Rattle.schema_spec.specs.Names.{Name, Names, element, text, has, within, names_of, code_of, name_of_code, has_bit, set_of_word, sum_of, word_of_set}
use Rattle.schema_spec.specs.Schemas.{Schema}
use Rattle.text_laws.specs.Lists.{any-in, in-any, in-filter, filter-in, filter-cong, in_map, map-in}
use Rattle.text_laws.specs.Tests.{decided, true_of, false_of, failed, cond-true, cond-false, never}
use Rattle.text_spec.specs.Limits.{max_declarations}
use Rattle.text_spec.specs.Lists.{any_of}

-- bit i of a number, as a number
abbrev bit : ℕ → ℕ → ℕ
bit w i = w / (2 ^ i) % 2

bit-half : (w i : ℕ) → bit w (suc i) ≡ bit (w / 2) i
bit-half w i = ap (λ (x : ℕ). x % 2) (ap (λ (p : ℕ). w / p) (pow-succ' 2 i) ∙ sym (div-div-eq-div-mul w 2 (2 ^ i)))

bit-zero : (w : ℕ) → bit w 0 ≡ w % 2
bit-zero w = ap (λ (x : ℕ). x % 2) (div-one w)

half-added : (c w : ℕ) → (2 ^ suc c + w) / 2 ≡ 2 ^ c + w / 2
half-added c w =
    let p : 2 ^ suc c ≡ 2 * 2 ^ c = pow-succ' 2 c in
    omega arith

-- a power of two is added where its bit is not set: only this bit changes
added-here : (c w : ℕ) → bit w c ≡ 0 → bit (2 ^ c + w) c ≡ 1
added-here zero w e =
    let p = bit-zero w in
    let q = bit-zero (1 + w) in
    omega arith
added-here (suc c) w e =
    let p : bit (w / 2) c ≡ 0 = sym (bit-half w c) ∙ e in
    bit-half (2 ^ suc c + w) c ∙ (ap (λ (x : ℕ). bit x c) (half-added c w) ∙ added-here c (w / 2) p)

added-elsewhere : (c w i : ℕ) → bit w c ≡ 0 → (i ≡ c → ⊥) → bit (2 ^ c + w) i ≡ bit w i
added-elsewhere zero w zero e n = absurd (n refl)
added-elsewhere zero w (suc i) e n =
    let p = bit-zero w in
    let h : (1 + w) / 2 ≡ w / 2 = omega arith in
    bit-half (1 + w) i ∙ (ap (λ (x : ℕ). bit x i) h ∙ sym (bit-half w i))
added-elsewhere (suc c) w zero e n =
    let p = bit-zero w in
    let q = bit-zero (2 ^ suc c + w) in
    let r : 2 ^ suc c ≡ 2 * 2 ^ c = pow-succ' 2 c in
    omega arith
added-elsewhere (suc c) w (suc i) e n =
    let p : bit (w / 2) c ≡ 0 = sym (bit-half w c) ∙ e in
    bit-half (2 ^ suc c + w) i ∙ (ap (λ (x : ℕ). bit x i) (half-added c w) ∙ (added-elsewhere c (w / 2) i p (λ z. n (ap suc z)) ∙ sym (bit-half w i)))

-- the sum of the powers of two of some names' codes, and its bits where the codes are distinct
abbrev sum : Names → ℕ
sum ns = sum_of (map (λ n. 2 ^ code_of n) ns)

-- bit i of the sum is set exactly if i is one of the codes
abbrev Bits : Names → ℕ → Type 0
Bits ns i = (In i (map code_of ns) → bit (sum ns) i ≡ 1) × ((In i (map code_of ns) → ⊥) → bit (sum ns) i ≡ 0)

bits_of : (ns : Names) → Distinct (map code_of ns) → (i : ℕ) → Bits ns i
bits_of [] d i = (λ j. elim j [ ], λ n. ap (λ (x : ℕ). x % 2) (zero-div (2 ^ i)))
bits_of (m ∷ ns) (next n d) i = pick (decided (eqb i (code_of m))) ((bits_of ns d (code_of m)).1 n) (bits_of ns d i)
  where
    pick : T (eqb i (code_of m)) ⊎ (T (eqb i (code_of m)) → ⊥) → bit (sum ns) (code_of m) ≡ 0 → Bits ns i → Bits (m ∷ ns) i
    pick (inl t) clear h =
        let e = eqb→eq i (code_of m) t in
        (λ j. subst (λ (x : ℕ). bit (sum (m ∷ ns)) x ≡ 1) (sym e) (added-here (code_of m) (sum ns) clear), λ k. absurd (k (here e)))
    pick (inr f) clear h =
        let other : i ≡ code_of m → ⊥ = λ e. f (subst (λ (x : ℕ). T (eqb i x)) e (eqb_refl i)) in
        let same = added-elsewhere (code_of m) (sum ns) i clear other in
        (λ j. same ∙ h.0 (⊎_elim (λ e. absurd (other e)) (λ k. k) (cases_cons j)), λ k. same ∙ h.1 (λ j. k (there j)))

-- codes tell the names of a list apart
pub record Coded (names : Names) : Type 0 where
  pub once : Distinct names
  pub apart : (a b : Name) → In a names → In b names → code_of a ≡ code_of b → a ≡ b

-- the codes of a schema's names, of which 32 are elements at most: below 64, and distinct
pub code_below : (s : Schema) → length s ≤ max_declarations → (n : Name) → In n (names_of s) → code_of n < max_declarations + max_declarations
code_below s l (element e) i =
    let h = in-element s e i in
    omega arith
code_below s l (text e) i =
    let h = (in-text s e i).0 in
    omega arith

pub code_apart : (s : Schema) → length s ≤ max_declarations → (a b : Name) → In a (names_of s) → In b (names_of s) → code_of a ≡ code_of b → a ≡ b
code_apart s l (element a) (element b) i j e = ap element e
code_apart s l (element a) (text b) i j e =
    let h = in-element s a i in
    absurd (omega arith)
code_apart s l (text a) (element b) i j e =
    let h = in-element s b j in
    absurd (omega arith)
code_apart s l (text a) (text b) i j e = ap text (omega arith)

-- the code of a schema's name gives it back, and a name that a code gives has this code
pub name_of_code-code_of : (s : Schema) → length s ≤ max_declarations → (n : Name) → In n (names_of s) → name_of_code (code_of n) ≡ some n
name_of_code-code_of s l (element e) i =
    let h = in-element s e i in
    cond-true (ltb e max_declarations) (some (element e)) _ (lt→ltb e max_declarations (omega arith))
name_of_code-code_of s l (text e) i =
    let h = (in-text s e i).0 in
    let c = max_declarations + e in
    cond-false (ltb c max_declarations) (some (element c)) _
    (λ t.
    let g = ltb→lt c max_declarations t in
    omega arith)
    ∙ (cond-true (ltb c (max_declarations + max_declarations)) (some (text (c - max_declarations))) none (lt→ltb c (max_declarations + max_declarations) (omega arith))
    ∙ ap (λ (x : ℕ). some (text x)) (omega arith))

pub code_of-name_of_code : (c : ℕ) (n : Name) → name_of_code c ≡ some n → code_of n ≡ c
code_of-name_of_code c n e = pick (ltb c max_declarations) (ltb c (max_declarations + max_declarations)) refl e
  where
    pick : (u v : Bool) → ltb c max_declarations ≡ u → cond u (some (element c)) (cond v (some (text (c - max_declarations))) none) ≡ some n → code_of n ≡ c
    pick true v q e =
        let z : n ≡ element c = cc in
        ap code_of z
    pick false true q e =
        let z : n ≡ text (c - max_declarations) = cc in
        let h = nltb→le c max_declarations (not_T (ltb c max_declarations) (failed q)) in
        let back : max_declarations + (c - max_declarations) ≡ c = omega arith in
        ap code_of z ∙ back
    pick false false q e =
        never (cc)

pub schema-coded : (s : Schema) → length s ≤ max_declarations → Coded (names_of s)
schema-coded s l = record { once = names-distinct s; apart = code_apart s l }

-- a name is in a word's set exactly if its bit is set
pub in-set_of_word : {n : Name} {names : Names} (w : ℕ) → In n names → T (has_bit w (code_of n)) → In n (set_of_word names w)
unfolding set_of_word
in-set_of_word w i t = in-filter (λ n. has_bit w (code_of n)) i t

pub set_of_word-in : {n : Name} (names : Names) (w : ℕ) → In n (set_of_word names w) → In n names × T (has_bit w (code_of n))
unfolding set_of_word
set_of_word-in names w i = filter-in (λ n. has_bit w (code_of n)) names i

set-bits : (names s : Names) → Coded names → (i : ℕ) → Bits (within names s) i
set-bits names s c i =
    bits_of (within names s)
    (distinct-map code_of (distinct_filter (λ n. has n s) c.once)
    (λ a b u v. c.apart a b (filter-in (λ n. has n s) names u).0 (filter-in (λ n. has n s) names v).0)) i

-- the bit of a name is set exactly if the name is in the set
pub word-has : (names s : Names) → Coded names → {n : Name} → In n names → In n s → T (has_bit (word_of_set names s) (code_of n))
unfolding word_of_set
word-has names s c {n} i j =
    subst (λ (x : ℕ). T (eqb x 1)) (sym ((set-bits names s c (code_of n)).0 (in_map code_of (in-filter (λ m. has m s) i (in-has j))))) tt

pub has_word : (names s : Names) → Coded names → {n : Name} → In n names → T (has_bit (word_of_set names s) (code_of n)) → In n s
unfolding word_of_set
has_word names s c {n} i t = ⊎_elim (λ h. has_in n s h) (λ h. absurd (unset h)) (decided (has n s))
  where
    unset : (T (has n s) → ⊥) → ⊥
    unset h =
        let clear = (set-bits names s c (code_of n)).1 (λ j.
        let r = map-in code_of (within names s) j in
        let f = filter-in (λ m. has m s) names r.1 in
        h (subst (λ (m : Name). T (has m s)) (sym (c.apart n r.0 i f.0 r.2)) f.1)) in
        subst (λ (x : ℕ). T (eqb x 1)) clear t

-- no other bit is set
pub word-named : (names s : Names) → Coded names → (i : ℕ) → T (has_bit (word_of_set names s) i) → (n : Name) × In n names × In n s × (i ≡ code_of n)
unfolding word_of_set
word-named names s c i t = pick (decided (any_of (eqb i) (map code_of (within names s))))
  where
    pick : T (any_of (eqb i) (map code_of (within names s))) ⊎ (T (any_of (eqb i) (map code_of (within names s))) → ⊥) → (n : Name) × In n names × In n s × (i ≡ code_of n)
    pick (inl u) =
        let a = in-any (eqb i) (map code_of (within names s)) u in
        let r = map-in code_of (within names s) a.1 in
        let f = filter-in (λ m. has m s) names r.1 in
        (r.0, f.0, has_in r.0 s f.1, eqb→eq i a.0 a.2 ∙ r.2)
    pick (inr n) =
        absurd (subst (λ (x : ℕ). T (eqb x 1)) ((set-bits names s c i).1 (λ j. n (any-in (eqb i) j (eqb_refl i)))) t)

-- a bit that is no name's is clear
pub word-clear : (names s : Names) → Coded names → (i : ℕ) → ((n : Name) → In n names → code_of n ≡ i → ⊥) → has_bit (word_of_set names s) i ≡ false
word-clear names s c i other =
    false_of (has_bit (word_of_set names s) i)
    (λ t.
    let r = word-named names s c i t in
    other r.0 r.1 (sym r.3))

-- a set that is handed back and in again is the same, but for what is no name
pub set_of_word-word_of_set : (names s : Names) → Coded names → set_of_word names (word_of_set names s) ≡ within names s
unfolding set_of_word
set_of_word-word_of_set names s c =
    filter-cong (λ n. has_bit (word_of_set names s) (code_of n)) (λ n. has n s) names (λ n i. agree n i (decided (has n s)))
  where
    agree : (n : Name) → In n names → T (has n s) ⊎ (T (has n s) → ⊥) → has_bit (word_of_set names s) (code_of n) ≡ has n s
    agree n i (inl t) =
        true_of (has_bit (word_of_set names s) (code_of n)) (word-has names s c i (has_in n s t)) ∙ sym (true_of (has n s) t)
    agree n i (inr f) =
        false_of (has_bit (word_of_set names s) (code_of n)) (λ t. f (in-has (has_word names s c i t))) ∙ sym (false_of (has n s) f)

-- sets with the same names are handed back as the same word
pub word_of_set-same : (names s t : Names) → ((n : Name) → In n names → has n s ≡ has n t) → word_of_set names s ≡ word_of_set names t
unfolding word_of_set
word_of_set-same names s t h = ap (λ (ns : Names). sum ns) (filter-cong (λ n. has n s) (λ n. has n t) names h)

-- a number without bits is 0
no_bits : (k v : ℕ) → v ≤ k → ((i : ℕ) → bit v i ≡ 0) → v ≡ 0
no_bits zero v l h = omega arith
no_bits (suc k) v l h =
    let p = bit-zero v in
    let q = h 0 in
    let r : v / 2 ≡ 0 = no_bits k (v / 2) (omega arith) (λ i. sym (bit-half v i) ∙ h (suc i)) in
    omega arith

-- a set of a schema's names takes 64 bits at most
pub word_below : (s : Schema) → length s ≤ max_declarations → (t : Names) → word_of_set (names_of s) t < 2 ^ 64
unfolding word_of_set
word_below s l t =
    let w = sum (within (names_of s) t) in
    let none_above : (i : ℕ) → bit (w / 2 ^ 64) i ≡ 0 = λ i.
    ap (λ (x : ℕ). x % 2) (div-div-eq-div-mul w (2 ^ 64) (2 ^ i) ∙ ap (λ (p : ℕ). w / p) (sym (pow-add 2 64 i)))
    ∙ (set-bits (names_of s) t (schema-coded s l) (64 + i)).1
    (λ j.
    let r = map-in code_of (within (names_of s) t) j in
    let b = code_below s l r.0 (filter-in (λ n. has n t) (names_of s) r.1).0 in
    let e : 64 + i ≡ code_of r.0 = r.2 in
    omega arith) in
    let z : w / 2 ^ 64 ≡ 0 = no_bits (w / 2 ^ 64) (w / 2 ^ 64) (omega arith) none_above in
    omega arith
