-- Laws of names as words: one byte more, and equal words are equal names.
use Rattle.std.specs.Prelude.{Bool, true, false, cond, List, [], ◌∷◌, ◌++◌, ◌≡◌, refl, ℕ, zero, suc, ◌+◌, ◌*◌, ◌/◌, ◌%◌, ◌^◌, ◌≤◌, ◌<◌, T, eqb, leb, length}
use Rattle.std.proofs.Common.{append_assoc, sym, ap, subst, ◌∙◌, div-lt_iff_lt-mul, mod-eq_of_lt, pow-suc, lt_of_lt_of_le, lt_of_le_of_lt, arith, eq-eqb, ne_eqb, eqb-true, leb-true, lit<}
use Rattle.std.proofs.Math.Nat.{div-eq_of_lt, mod-le, pow-le-pow_right}
use Rattle.std.proofs.lemmas.Bool.{eqb-false}
use Rattle.std.proofs.Math.Arith.{digits_lt, digits_div, digits_mod}
use Rattle.std.specs.Int.Bits.{bit_or, bit_xor, xor_self, xor_add_and, or_add_and}
use Rattle.std.proofs.lemmas.Nat.{and_le_l, and_le_r}
use Rattle.text_laws.specs.Lists.{bytes-equal, bytes_same}
use Rattle.text_laws.specs.Tests.{and_cases, true_of, passed, failed}
use Rattle.text_spec.specs.Bytes.{is_between}
use Rattle.text_spec.specs.Lists.{all_of, same_bytes}
use Rattle.text.specs.declared.name_words.Name.{Name}
use Rattle.text.specs.name_words.Words.{words, new_group, longer_group, with_byte, with_bytes, words_of, Spells}

with-bytes-snoc : (w : Name) (k : ℕ) (n : List ℕ) (x : ℕ) → with_bytes w k (n ++ (x ∷ [])) ≡ with_byte (with_bytes w k n) (k + length n) x
unfolding with_bytes
with-bytes-snoc w k [] x = let e : k ≡ k + 0 = omega arith in ap (λ (j : ℕ). with_byte w j x) e
with-bytes-snoc w k (y ∷ n) x =
    let e : suc k + length n ≡ k + suc (length n) = omega arith in
    with-bytes-snoc (with_byte w k y) (suc k) n x ∙ ap (λ (j : ℕ). with_byte (with_bytes (with_byte w k y) (suc k) n) j x) e

pub words_snoc : (n : List ℕ) (x : ℕ) → words_of (n ++ (x ∷ [])) ≡ with_byte (words_of n) (length n) x
unfolding words_of
words_snoc n x =
    let e : 0 + length n ≡ length n = omega arith in
    with-bytes-snoc (words 0 0 0 0) 0 n x ∙ ap (λ (j : ℕ). with_byte (with_bytes (words 0 0 0 0) 0 n) j x) e

-- the bytes of a number of at most k digits to the base 256, without zeros
kept : ℕ → List ℕ
kept x = cond (eqb x 0) [] (x ∷ [])

letters : ℕ → ℕ → List ℕ
letters zero a = []
letters (suc k) a = letters k (a / 256) ++ kept (a % 256)

kept-one : (x : ℕ) → 0 < x → kept x ≡ x ∷ []
unfolding kept
kept-one x h = rw (ne_eqb x 0 (λ e. omega arith))

append-nil : (n : List ℕ) → n ++ [] ≡ n
append-nil [] = refl
append-nil (x ∷ n) = ap (λ (l : List ℕ). x ∷ l) (append-nil n)

letters-zero : (k : ℕ) → letters k 0 ≡ []
unfolding letters kept
letters-zero zero = refl
letters-zero (suc k) = append-nil (letters k 0) ∙ letters-zero k

-- a digit more than the number has is no letter
letters-more : (k a : ℕ) → a < 256 ^ k → letters (suc k) a ≡ letters k a
unfolding letters
letters-more zero a h = let e : a ≡ 0 = omega arith in ap (letters 1) e ∙ letters-zero 1
letters-more (suc k) a h =
    ap (λ (l : List ℕ). l ++ kept (a % 256)) (letters-more k (a / 256) ((div-lt_iff_lt-mul (lit< tt)).1 (rw (pow-suc 256 k) at h)))

letters-one : (k x : ℕ) → 0 < x → x < 256 → letters (suc k) x ≡ x ∷ []
unfolding letters
letters-one k x p h =
    rw (div-eq_of_lt h, mod-eq_of_lt h, letters-zero k) (kept-one x p)

letters-with_byte : (k a x : ℕ) → 0 < x → x < 256 → a < 256 ^ k → letters (suc k) (a * 256 + x) ≡ letters (suc k) a ++ (x ∷ [])
unfolding letters
letters-with_byte k a x p h b =
    rw (digits_div a h, digits_mod a h, kept-one x p) (ap (λ (l : List ℕ). l ++ (x ∷ [])) (sym (letters-more k a b)))

-- words of k bytes: the last group has at most k digits, and the groups that are not begun are 0
record After (w : Name) (k : ℕ) : Type 0 where
  last : (k % 8 ≡ 0 → ⊥) → w.a < 256 ^ (k % 8)
  first : k ≡ 0 → w.a ≡ 0
  second : k ≤ 8 → w.b ≡ 0
  third : k ≤ 16 → w.c ≡ 0
  fourth : k ≤ 24 → w.d ≡ 0

last-below : (w : Name) (k : ℕ) → After w k → (k % 8 ≡ 0 → ⊥) → w.a < 2 ^ 56
last-below w k f n = lt_of_lt_of_le (f.last n) (pow-le-pow_right {n = 256} (lit< tt) {i = k % 8} {j = 7} (omega arith))

name_of : Name → List ℕ
name_of w = letters 8 w.d ++ (letters 8 w.c ++ (letters 8 w.b ++ letters 8 w.a))

module _ (w : Name) (k x : ℕ) (p : 0 < x) (h : x < 256) (room : k < 32) (f : After w k) where
  -- a new group
  new-after : k % 8 ≡ 0 → After (new_group w x) (suc k)
  new-after e =
      record {
        last = λ n. let g : suc k % 8 ≡ 1 = omega arith in rw g h;
        first = λ g. absurd (omega arith);
        second = λ g. f.first (omega arith);
        third = λ g. f.second (omega arith);
        fourth = λ g. f.third (omega arith);
      }

  new-name : k % 8 ≡ 0 → name_of (new_group w x) ≡ name_of w ++ (x ∷ [])
  unfolding name_of
  new-name e =
      let z : w.d ≡ 0 = f.fourth (omega arith) in
      rw (z, letters-one 7 x p h, letters-zero 8) (simp append_assoc)

  -- the last group longer
  longer-after : (k % 8 ≡ 0 → ⊥) → After (longer_group w x) (suc k)
  longer-after n =
      record {
        last = λ m.
            let g : suc k % 8 ≡ suc (k % 8) = omega arith in
            rw (g, pow-suc 256 (k % 8)) (digits_lt (lt_of_le_of_lt (mod-le w.a (2 ^ 56)) (f.last n)) h);
        first = λ g. absurd (omega arith);
        second = λ g. f.second (omega arith);
        third = λ g. f.third (omega arith);
        fourth = λ g. f.fourth (omega arith);
      }

  longer-name : (k % 8 ≡ 0 → ⊥) → name_of (longer_group w x) ≡ name_of w ++ (x ∷ [])
  unfolding name_of
  longer-name n =
      let s = last-below w k f n in
      rw (mod-eq_of_lt s, letters-with_byte 7 w.a x p h s) (simp append_assoc)

  with_byte-after : After (with_byte w k x) (suc k)
  with_byte-after = pick (eqb (k % 8) 0) refl
    where
      pick : (t : Bool) → eqb (k % 8) 0 ≡ t → After (cond t (new_group w x) (longer_group w x)) (suc k)
      pick true e = new-after (eqb-true (k % 8) 0 e)
      pick false e = longer-after (eqb-false (k % 8) 0 e)

  with_byte-name : name_of (with_byte w k x) ≡ name_of w ++ (x ∷ [])
  with_byte-name = pick (eqb (k % 8) 0) refl
    where
      pick : (t : Bool) → eqb (k % 8) 0 ≡ t → name_of (cond t (new_group w x) (longer_group w x)) ≡ name_of w ++ (x ∷ [])
      pick true e = new-name (eqb-true (k % 8) 0 e)
      pick false e = longer-name (eqb-false (k % 8) 0 e)

with-bytes-name : (w : Name) (k : ℕ) (n : List ℕ) → k + length n ≤ 32 → T (all_of (is_between 1 255) n) → After w k
    → name_of (with_bytes w k n) ≡ name_of w ++ n
unfolding with_bytes
with-bytes-name w k [] room t f = sym (append-nil (name_of w))
with-bytes-name w k (x ∷ n) room t f =
    let c = and_cases (is_between 1 255 x) (all_of (is_between 1 255) n) t in
    let b = and_cases (leb 1 x) (leb x 255) c.0 in
    let p : 1 ≤ x = leb-true 1 x (true_of (leb 1 x) b.0) in
    let h : x ≤ 255 = leb-true x 255 (true_of (leb x 255) b.1) in
    with-bytes-name (with_byte w k x) (suc k) n (omega arith) c.1 (with_byte-after w k x p (omega arith) (omega arith) f)
    ∙ ap (λ (l : List ℕ). l ++ n) (with_byte-name w k x p (omega arith) (omega arith) f) ∙ append_assoc (name_of w) (x ∷ []) n

-- the name that words stand for is the one that they were made of
words-name : (n : List ℕ) → length n ≤ 32 → T (all_of (is_between 1 255) n) → name_of (words_of n) ≡ n
unfolding words_of name_of
words-name n short t =
    with-bytes-name (words 0 0 0 0) 0 n (omega arith) t
    (record { last = λ n. absurd (n refl); first = λ e. refl; second = λ e. refl; third = λ e. refl; fourth = λ e. refl })
    ∙ empty-first
  where
    empty-first : name_of (words 0 0 0 0) ++ n ≡ n
    empty-first = rw (letters-zero 8)

pub spells-once : (w : Name) (u v : List ℕ) → Spells w u → Spells w v → u ≡ v
spells-once w u v p q =
    sym (words-name u p.short p.filled) ∙ ap name_of (sym p.spelt ∙ q.spelt) ∙ words-name v q.short q.filled

pub same-words : (w y : Name) (u v : List ℕ) → Spells w u → Spells y v → u ≡ v → w ≡ y
same-words w y u v p q e = p.spelt ∙ ap words_of e ∙ sym q.spelt

-- words that differ in no bit are the same
pub no_difference : (a b : ℕ) → bit_xor a b ≡ 0 → a ≡ b
no_difference a b e = omega (arith, xor_add_and a b, and_le_l a b, and_le_r a b)

pub or-none : (a b : ℕ) → bit_or a b ≡ 0 → (a ≡ 0) × (b ≡ 0)
or-none a b e = (omega (arith, or_add_and a b, and_le_r a b), omega (arith, or_add_and a b, and_le_l a b))

abbrev pub differs : Name → Name → ℕ
differs w y = bit_or (bit_or (bit_or (bit_xor w.a y.a) (bit_xor w.b y.b)) (bit_xor w.c y.c)) (bit_xor w.d y.d)

differs-nowhere : (w y : Name) → differs w y ≡ 0 → w ≡ y
differs-nowhere w y e =
    let p = or-none (bit_or (bit_or (bit_xor w.a y.a) (bit_xor w.b y.b)) (bit_xor w.c y.c)) (bit_xor w.d y.d) e in
    let q = or-none (bit_or (bit_xor w.a y.a) (bit_xor w.b y.b)) (bit_xor w.c y.c) p.0 in
    let r = or-none (bit_xor w.a y.a) (bit_xor w.b y.b) q.0 in
    rw (
      ← no_difference w.a y.a r.0,
      ← no_difference w.b y.b r.1,
      ← no_difference w.c y.c q.1,
      ← no_difference w.d y.d p.1,
    )

differs-itself : (w : Name) → differs w w ≡ 0
differs-itself w = rw (xor_self w.a, xor_self w.b, xor_self w.c, xor_self w.d)

-- the words' test is the names'
pub words-decide : (w y : Name) (u v : List ℕ) → Spells w u → Spells y v → eqb (differs w y) 0 ≡ same_bytes u v
words-decide w y u v p q = pick (eqb (differs w y) 0) (same_bytes u v) refl refl
  where
    pick : (s t : Bool) → eqb (differs w y) 0 ≡ s → same_bytes u v ≡ t → s ≡ t
    pick true true e f = refl
    pick false false e f = refl
    pick true false e f =
        let g : w ≡ y = differs-nowhere w y (eqb-true (differs w y) 0 e) in
        let h : u ≡ v = spells-once y u v (subst (λ (z : Name). Spells z u) g p) q in
        absurd (failed f (subst (λ (z : List ℕ). T (same_bytes u z)) h (bytes_same u)))
    pick false true e f =
        let h : u ≡ v = bytes-equal u v (passed f) in
        let g : w ≡ y = same-words w y u v p q h in
        absurd (eqb-false (differs w y) 0 e (subst (λ (z : Name). differs w z ≡ 0) g (differs-itself w)))

module _ (w : Name) (k x y : ℕ) (same : y ≡ x) where
  pub new-group : k % 8 ≡ 0 → (n : List ℕ) → w ≡ words_of n → k ≡ length n → new_group w y ≡ words_of (n ++ (x ∷ []))
  new-group e n p q = rw same (sym (words_snoc n x ∙ rw (← p, ← q, eq-eqb (k % 8) 0 e)))

  pub longer-group : (k % 8 ≡ 0 → ⊥) → (n : List ℕ) → w ≡ words_of n → k ≡ length n
      → longer_group w y ≡ words_of (n ++ (x ∷ []))
  longer-group e n p q = rw same (sym (words_snoc n x ∙ rw (← p, ← q, ne_eqb (k % 8) 0 e)))
