-- Laws of sets of numbers as the bits of a word: what each machine operation does to the bits, and that equal bits make equal words.
use Rattle.std.specs.Prelude.{Bool, true, false, not, ◌&&◌, ◌||◌, ◌⊎◌, ◌≡◌, refl, ℕ, zero, suc, ◌+◌, ◌*◌, ◌-◌, ◌/◌, ◌%◌, ◌^◌, ◌<◌, ◌≤◌, T, eqb}
use Rattle.std.proofs.Common.{true≢false, inl, inr, sym, ap, subst, ◌∙◌, mod-lt, div-one, one-mul, div-add-mod', lt_of_lt_of_le, mul_assoc, pow-suc, add-one, arith, eq-eqb, eqb→eq, pow_pos, pow_mono, pow-add, shr-shr, shr_lt}
use Rattle.std.proofs.lemmas.Bool.{false≢true, cases_lt}
use Rattle.std.proofs.lemmas.Nat.Bits.{bit_at-lt, bit_at_above, bit_at_not}
use Rattle.std.proofs.Math.Nat.{div-eq_of_lt, mul-div-mul_right}
use Rattle.std.specs.Int.{bit_at, bit_not, w64}
use Rattle.std.specs.Int.Bits.{bit_and, bit_or, bit_xor, and_lt, shifted_even}
use Rattle.std.proofs.lemmas.Nat.{or_shr, or_mod, and_shr, and_mod, xor_shr, xor_mod, shl-shr}
use Rattle.std.proofs.Math.Dec.{eqb-zero-suc, eqb-suc-zero, eqb-suc-suc}
use Rattle.std.proofs.Math.Pow.{pow-lt, field, mod-mod-pow}
use Rattle.schema_spec.specs.Names.{has_bit}
use Rattle.text_laws.specs.Searches.{any_below_lem, below-any, any-cong}
use Rattle.text_laws.specs.Tests.{passed, failed, false_of, not-intro, not-elim, decided, same_test}
use Rattle.text_spec.specs.Lists.{any_below}

-- what is left of a number after division by two
remainder : (n : ℕ) → (n % 2 ≡ 0) ⊎ (n % 2 ≡ 1)
remainder n = pick (n % 2) (mod-lt n (pow_pos 1))
  where
    pick : (m : ℕ) → m < 2 → (m ≡ 0) ⊎ (m ≡ 1)
    pick zero h = inl refl
    pick (suc zero) h = inr refl
    pick (suc (suc m)) h = absurd (omega arith)

-- an operation that works on each bit by itself, as f does on tests, does so on the members of sets
module _ (op : ℕ → ℕ → ℕ) (f : Bool → Bool → Bool)
    (shr : (a b i : ℕ) → op a b / 2 ^ i ≡ op (a / 2 ^ i) (b / 2 ^ i)) (rem : (a b i : ℕ) → op a b % 2 ^ i ≡ op (a % 2 ^ i) (b % 2 ^ i))
    (at00 : eqb (op 0 0) 1 ≡ f false false) (at01 : eqb (op 0 1) 1 ≡ f false true) (at10 : eqb (op 1 0) 1 ≡ f true false) (at11 : eqb (op 1 1) 1 ≡ f true true) where
  one_bit : (m n : ℕ) → (m ≡ 0) ⊎ (m ≡ 1) → (n ≡ 0) ⊎ (n ≡ 1) → eqb (op m n) 1 ≡ f (eqb m 1) (eqb n 1)
  one_bit m n (inl p) (inl q) = rw (p, q) at00
  one_bit m n (inl p) (inr q) = rw (p, q) at01
  one_bit m n (inr p) (inl q) = rw (p, q) at10
  one_bit m n (inr p) (inr q) = rw (p, q) at11

  by_bits : (a b i : ℕ) → has_bit (op a b) i ≡ f (has_bit a i) (has_bit b i)
  by_bits a b i =
      ap (λ (n : ℕ). eqb (n % 2) 1) (shr a b i) ∙ ap (λ (n : ℕ). eqb n 1) (rem (a / 2 ^ i) (b / 2 ^ i) 1)
      ∙ one_bit (a / 2 ^ i % 2) (b / 2 ^ i % 2) (remainder (a / 2 ^ i)) (remainder (b / 2 ^ i))

pub bit-or : (a b i : ℕ) → has_bit (bit_or a b) i ≡ (has_bit a i || has_bit b i)
bit-or = by_bits bit_or (λ x y. x || y) or_shr or_mod refl refl refl refl

pub bit-and : (a b i : ℕ) → has_bit (bit_and a b) i ≡ (has_bit a i && has_bit b i)
bit-and = by_bits bit_and (λ x y. x && y) and_shr and_mod refl refl refl refl

-- what is in one of two sets and not in both: with what both have, the first without the second
pub bit-without : (a b i : ℕ) → has_bit (bit_xor a (bit_and a b)) i ≡ (has_bit a i && not (has_bit b i))
bit-without a b i =
    by_bits bit_xor differ xor_shr xor_mod refl refl refl refl a (bit_and a b) i ∙ ap (differ (has_bit a i)) (bit-and a b i) ∙ only (has_bit a i) (has_bit b i)
  where
    differ : Bool → Bool → Bool
    differ true y = not y
    differ false y = y

    only : (x y : Bool) → differ x (x && y) ≡ (x && not y)
    only true y = refl
    only false y = refl

-- what is in the first of two sets and not in the second: words of 64 bits have none from 64 on
module _ (a b i : ℕ) (ha : a < 2 ^ 64) (hb : b < 2 ^ 64) where
  not-bit : i < 64 → has_bit (bit_not w64 b) i ≡ not (has_bit b i)
  not-bit l = pick (bit_at b i) (bit_at (bit_not w64 b) i) (bit_at-lt b i) (bit_at_not w64 b i hb l)
    where
      pick : (m n : ℕ) → m < 2 → n ≡ 1 - m → eqb n 1 ≡ not (eqb m 1)
      pick zero n h e = rw e refl
      pick (suc zero) n h e = rw e refl
      pick (suc (suc m)) n h e = absurd (omega arith)

  no-bit : 64 ≤ i → has_bit a i ≡ false
  no-bit l = ap (λ (n : ℕ). eqb n 1) (bit_at_above a 64 i ha l)

  pub bit-and-not : has_bit (bit_and a (bit_not w64 b)) i ≡ (has_bit a i && not (has_bit b i))
  bit-and-not = bit-and a (bit_not w64 b) i ∙ by (cases_lt i 64)
    where
      by : (i < 64) ⊎ (64 ≤ i) → (has_bit a i && has_bit (bit_not w64 b) i) ≡ (has_bit a i && not (has_bit b i))
      by (inl l) = ap (λ (x : Bool). has_bit a i && x) (not-bit l)
      by (inr l) = rw (no-bit l) refl

pub bit-none : (i : ℕ) → has_bit 0 i ≡ false
bit-none i = ap (λ (n : ℕ). eqb (n % 2) 1) (div-eq_of_lt (pow_pos i))

-- the set of j alone
pub bit-one : (j i : ℕ) → has_bit (2 ^ j) i ≡ eqb i j
bit-one zero zero = refl
bit-one zero (suc i) = ap (λ (n : ℕ). eqb (n % 2) 1) (div-eq_of_lt (pow-lt (positive i))) ∙ sym (eqb-suc-zero i)
  where
    positive : (k : ℕ) → 0 < suc k
    positive k = omega arith
bit-one (suc j) zero =
    ap (λ (n : ℕ). eqb (n % 2) 1) (div-one (2 ^ suc j)) ∙ ap (λ (n : ℕ). eqb n 1) (ap (λ (n : ℕ). n % 2) (sym (one-mul (2 ^ suc j))) ∙ shifted_even 1 j)
    ∙ sym (eqb-zero-suc j)
bit-one (suc j) (suc i) =
    rw (pow-suc 2 j, pow-suc 2 i) (ap (λ (n : ℕ). eqb (n % 2) 1) (mul-div-mul_right (2 ^ j) (2 ^ i) (pow_pos 1)) ∙ bit-one j i ∙ sym (eqb-suc-suc i j))

-- nothing at or past the width is in a set that fits it
pub bit_past : (w a i : ℕ) → a < 2 ^ w → w ≤ i → has_bit a i ≡ false
bit_past w a i fits past = ap (λ (n : ℕ). eqb (n % 2) 1) (div-eq_of_lt (lt_of_lt_of_le fits (pow_mono past)))

-- shifted down by k: the members from k on, each less by k
pub bit-down : (a k i : ℕ) → has_bit (a / 2 ^ k) i ≡ has_bit a (k + i)
bit-down a k i = ap (λ (n : ℕ). eqb (n % 2) 1) (shr-shr a k i)

-- shifted up by k: nothing below k, and then the members
pub bit_up : (a k i : ℕ) → has_bit (a * 2 ^ k) (k + i) ≡ has_bit a i
bit_up a k i = sym (bit-down (a * 2 ^ k) k i) ∙ ap (λ (n : ℕ). has_bit n i) (shl-shr a k)

pub bit-up-below : (a k i : ℕ) → i < k → has_bit (a * 2 ^ k) i ≡ false
bit-up-below a k i h = ap (λ (n : ℕ). has_bit (a * 2 ^ n) i) apart ∙ ap (λ (n : ℕ). eqb (n % 2) 1) even ∙ ap (λ (n : ℕ). eqb n 1) (shifted_even a (k - suc i))
  where
    apart : k ≡ suc (k - suc i) + i
    apart = omega arith

    even : a * 2 ^ (suc (k - suc i) + i) / 2 ^ i ≡ a * 2 ^ suc (k - suc i)
    even = ap (λ (n : ℕ). n / 2 ^ i) (ap (λ (n : ℕ). a * n) (pow-add 2 (suc (k - suc i)) i) ∙ sym (mul_assoc a (2 ^ suc (k - suc i)) (2 ^ i))) ∙ shl-shr (a * 2 ^ suc (k - suc i)) i

-- cut to a width: the members below it
pub bit_cut : (a w i : ℕ) → i < w → has_bit (a % 2 ^ w) i ≡ has_bit a i
bit_cut a w i h =
    ap (λ (n : ℕ). has_bit (a % 2 ^ n) i) apart ∙ ap (λ (n : ℕ). eqb (n % 2) 1) (field a (w - suc i + 1) i)
    ∙ ap (λ (n : ℕ). eqb n 1) (mod-mod-pow (a / 2 ^ i) (w - suc i) 1)
  where
    apart : w ≡ w - suc i + 1 + i
    apart = omega arith

pub bit-cut-past : (a w i : ℕ) → w ≤ i → has_bit (a % 2 ^ w) i ≡ false
bit-cut-past a w i h = bit_past w (a % 2 ^ w) i (mod-lt a (pow_pos w)) h

same-remainder : (m n : ℕ) → (m ≡ 0) ⊎ (m ≡ 1) → (n ≡ 0) ⊎ (n ≡ 1) → eqb m 1 ≡ eqb n 1 → m ≡ n
same-remainder m n (inl p) (inl q) e = p ∙ sym q
same-remainder m n (inl p) (inr q) e = absurd (false≢true (rw (p, q) at e))
same-remainder m n (inr p) (inl q) e = absurd (true≢false (rw (p, q) at e))
same-remainder m n (inr p) (inr q) e = p ∙ sym q

same_first : (a b : ℕ) → has_bit a 0 ≡ has_bit b 0 → a % 2 ≡ b % 2
same_first a b e = same-remainder (a % 2) (b % 2) (remainder a) (remainder b) (simp div-one at e)

-- two sets that fit a width are equal where they have the same members
pub same_bits : (w a b : ℕ) → a < 2 ^ w → b < 2 ^ w → ((i : ℕ) → i < w → has_bit a i ≡ has_bit b i) → a ≡ b
same_bits zero a b ha hb e = omega arith
same_bits (suc w) a b ha hb e =
    let halves = same_bits w (a / 2) (b / 2) (shr_lt w 1 (rw add-one ha)) (shr_lt w 1 (rw add-one hb))
    (λ i l. bit-down a 1 i ∙ shifted i l ∙ sym (bit-down b 1 i)) in
    let first = same_first a b (e 0 (omega arith)) in
    sym (div-add-mod' a 2) ∙ joined halves first ∙ div-add-mod' b 2
  where
    shifted : (i : ℕ) → i < w → has_bit a (1 + i) ≡ has_bit b (1 + i)
    shifted i l = e (1 + i) (omega arith)

    joined : a / 2 ≡ b / 2 → a % 2 ≡ b % 2 → a / 2 * 2 + a % 2 ≡ b / 2 * 2 + b % 2
    joined p q = omega arith

-- a word is not 0 exactly if it has a bit
pub some-bit : (w a : ℕ) → a < 2 ^ w → not (eqb a 0) ≡ any_below w (has_bit a)
some-bit w a fits = same_test (not (eqb a 0)) (any_below w (has_bit a)) (λ t. found t (decided (any_below w (has_bit a)))) (λ t. not-intro (eqb a 0) (λ e. clear (eqb→eq a 0 e) (below-any w (has_bit a) t)))
  where
    clear : a ≡ 0 → (i : ℕ) × (i < w) × T (has_bit a i) → ⊥
    clear e r = failed (bit-none r.0) (subst (λ (n : ℕ). T (has_bit n r.0)) e r.2)

    found : T (not (eqb a 0)) → T (any_below w (has_bit a)) ⊎ (T (any_below w (has_bit a)) → ⊥) → T (any_below w (has_bit a))
    found t (inl h) = h
    found t (inr h) =
        absurd (not-elim (eqb a 0) t (passed (eq-eqb a 0 (same_bits w a 0 fits (pow_pos w) (λ i l. false_of (has_bit a i) (λ b. h (any_below_lem w (has_bit a) i l b)) ∙ sym (bit-none i))))))

-- two words meet exactly if some bit is in both
pub meet-bits : (a b : ℕ) → a < 2 ^ 64 → b < 2 ^ 64 → not (eqb (bit_and a b) 0) ≡ any_below 64 (λ i. has_bit a i && has_bit b i)
meet-bits a b ha hb = some-bit 64 (bit_and a b) (and_lt 64 a b ha hb) ∙ any-cong 64 (has_bit (bit_and a b)) (λ i. has_bit a i && has_bit b i) (λ i l. bit-and a b i)
