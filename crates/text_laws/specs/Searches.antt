-- Whether some number below a bound passes a test.
use Rattle.std.specs.Prelude.{Bool, true, false, ◌&&◌, ◌||◌, ◌⊎◌, ◌≡◌, refl, ℕ, zero, suc, ◌+◌, ◌≤◌, ◌<◌, T, eqb, leb, ltb}
use Rattle.std.proofs.Math.Bool.{or-false, or_assoc, and-or_distrib_right}
use Rattle.std.proofs.Common.{inl, inr, ⊎_elim, sym, ap, ap₂, subst, ◌∙◌, eq-or-lt_of_le, arith, lt-ltb, le-ltb, ltb-true, ltb-false, eqb-true, eqb→eq, leb→le, le→leb, ltb→lt, lt→ltb}
use Rattle.std.proofs.lemmas.Bool.{eqb-false}
use Rattle.std.proofs.Math.Dec.{eqb_refl}
use Rattle.text_laws.specs.Tests.{or_left, or_right, or_cases, and_intro, and_cases, decided, false_of, same_test}
use Rattle.text_spec.specs.Lists.{any_below}

pub any_below_lem : (n : ℕ) (f : ℕ → Bool) (i : ℕ) → i < n → T (f i) → T (any_below n f)
unfolding any_below
any_below_lem zero f i h t = absurd (omega arith)
any_below_lem (suc n) f i h t =
    ⊎_elim (λ e. or_right (any_below n f) (f n) (subst (λ (j : ℕ). T (f j)) (eqb→eq i n e) t))
    (λ d. or_left (any_below n f) (f n) (any_below_lem n f i (less (λ q. d (subst (λ (j : ℕ). T (eqb i j)) q (eqb_refl i)))) t)) (decided (eqb i n))
  where
    less : (i ≡ n → ⊥) → i < n
    less d = omega arith

pub below-any : (n : ℕ) (f : ℕ → Bool) → T (any_below n f) → (i : ℕ) × (i < n) × T (f i)
unfolding any_below
below-any zero f t = absurd t
below-any (suc n) f t =
    ⊎_elim (λ h.
    let r = below-any n f h in
    (r.0, omega arith, r.2)) (λ h. (n, omega arith, h)) (or_cases (any_below n f) (f n) t)

-- tests that agree below the bound
pub any-cong : (n : ℕ) (f g : ℕ → Bool) → ((i : ℕ) → i < n → f i ≡ g i) → any_below n f ≡ any_below n g
unfolding any_below
any-cong zero f g h = refl
any-cong (suc n) f g h = ap₂ ◌||◌ (any-cong n f g (λ i l. h i (omega arith))) (h n (omega arith))

-- what is said of a number alone
pub any-only : (n k : ℕ) (f : ℕ → Bool) → k < n → any_below n (λ i. f i && eqb i k) ≡ f k
any-only n k f h =
    same_test (any_below n (λ i. f i && eqb i k)) (f k)
    (λ t.
    let r = below-any n (λ i. f i && eqb i k) t in
    let c = and_cases (f r.0) (eqb r.0 k) r.2 in
    subst (λ (i : ℕ). T (f i)) (eqb→eq r.0 k c.1) c.0)
    (λ t. any_below_lem n (λ i. f i && eqb i k) k h (and_intro (f k) (eqb k k) t (eqb_refl k)))

pub any_none : (n : ℕ) → any_below n (λ i. false) ≡ false
unfolding any_below
any_none zero = refl
any_none (suc n) = ap (λ (b : Bool). b || false) (any_none n)

pub any-never : (n : ℕ) (f : ℕ → Bool) → ((i : ℕ) → i < n → T (f i) → ⊥) → any_below n f ≡ false
any-never n f none = false_of (any_below n f) (λ t. let r = below-any n f t in none r.0 r.1 r.2)

-- number 0 apart
pub any-zero : (n : ℕ) (f : ℕ → Bool) → any_below (suc n) f ≡ (f 0 || any_below n (λ i. f (suc i)))
unfolding any_below
any-zero zero f = sym (or-false (f 0))
any-zero (suc n) f = ap (λ (b : Bool). b || f (suc n)) (any-zero n f) ∙ or_assoc (f 0) (any_below n (λ i. f (suc i))) (f (suc n))

-- some number from k on: one after k, or k itself
pub any-from : (n : ℕ) (f : ℕ → Bool) (k : ℕ) → k < n → any_below n (λ i. leb k i && f i) ≡ (any_below n (λ i. leb (suc k) i && f i) || f k)
any-from n f k l = same_test (any_below n (λ i. leb k i && f i)) (later || f k) to from
  where
    later : Bool
    later = any_below n (λ i. leb (suc k) i && f i)

    to : T (any_below n (λ i. leb k i && f i)) → T (later || f k)
    to t =
        let r = below-any n (λ i. leb k i && f i) t in
        let c = and_cases (leb k r.0) (f r.0) r.2 in
        ⊎_elim (λ e. or_right later (f k) (subst (λ (z : ℕ). T (f z)) (sym e) c.1))
        (λ d. or_left later (f k) (any_below_lem n (λ i. leb (suc k) i && f i) r.0 r.1 (and_intro (leb (suc k) r.0) (f r.0) (le→leb _ _ d) c.1)))
        (eq-or-lt_of_le (leb→le k r.0 c.0))

    from : T (later || f k) → T (any_below n (λ i. leb k i && f i))
    from t =
        ⊎_elim (λ u.
        let r = below-any n (λ i. leb (suc k) i && f i) u in
        let c = and_cases (leb (suc k) r.0) (f r.0) r.2 in
        let b : suc k ≤ r.0 = leb→le (suc k) r.0 c.0 in
        any_below_lem n (λ i. leb k i && f i) r.0 r.1 (and_intro (leb k r.0) (f r.0) (le→leb k r.0 (omega arith)) c.1))
        (λ u. any_below_lem n (λ i. leb k i && f i) k l (and_intro (leb k k) (f k) (le→leb k k (omega arith)) u)) (or_cases later (f k) t)

-- a bound that all numbers that pass keep
pub any-from-all : (n : ℕ) (f : ℕ → Bool) (k : ℕ) → ((i : ℕ) → i < n → T (f i) → k ≤ i) → any_below n (λ i. leb k i && f i) ≡ any_below n f
any-from-all n f k all =
    any-cong n (λ i. leb k i && f i) f
    (λ i l. same_test (leb k i && f i) (f i) (λ t. (and_cases (leb k i) (f i) t).1) (λ t. and_intro (leb k i) (f i) (le→leb k i (all i l t)) t))

-- a factor that is the same for all
pub any-and : (n : ℕ) (f : ℕ → Bool) (c : Bool) → any_below n (λ i. f i && c) ≡ (any_below n f && c)
unfolding any_below
any-and zero f c = refl
any-and (suc n) f c = ap (λ (b : Bool). b || (f n && c)) (any-and n f c) ∙ sym (and-or_distrib_right (any_below n f) (f n) c)

pub any-or : (n : ℕ) (f g : ℕ → Bool) → any_below n (λ i. f i || g i) ≡ (any_below n f || any_below n g)
unfolding any_below
any-or zero f g = refl
any-or (suc n) f g = ap (λ (b : Bool). b || (f n || g n)) (any-or n f g) ∙ exchange (any_below n f) (any_below n g) (f n) (g n)
  where
    exchange : (a b c d : Bool) → ((a || b) || (c || d)) ≡ ((a || c) || (b || d))
    exchange true b c d = refl
    exchange false true true d = refl
    exchange false true false d = refl
    exchange false false c d = refl

pub below-or-past : (i n : ℕ) → (i < n) ⊎ (n ≤ i)
below-or-past i n = pick (ltb i n) refl
  where
    pick : (b : Bool) → ltb i n ≡ b → (i < n) ⊎ (n ≤ i)
    pick true e = inl (ltb-true i n e)
    pick false e = inr (ltb-false i n e)

-- what is not i is before i, or before the next, alike
before-next : (j i : ℕ) → (j ≡ i → ⊥) → ltb j i ≡ ltb j (i + 1)
before-next j i d =
    same_test (ltb j i) (ltb j (i + 1))
    (λ t.
    let h = ltb→lt j i t in
    lt→ltb j (i + 1) (omega arith))
    (λ t.
    let h = ltb→lt j (i + 1) t in
    lt→ltb j i (omega arith))

-- the numbers before i that pass a test, and i if it does: those before the next
pub one_more : (f : ℕ → Bool) (i j : ℕ) → ((ltb j i && f j) || (eqb j i && f i)) ≡ (ltb j (i + 1) && f j)
one_more f i j = pick (eqb j i) refl
  where
    pick : (b : Bool) → eqb j i ≡ b → ((ltb j i && f j) || (b && f i)) ≡ (ltb j (i + 1) && f j)
    pick true q =
        let z = eqb-true j i q in
        ap (λ (b : Bool). (b && f j) || f i) (le-ltb j i (omega arith)) ∙ ap f (sym z) ∙ sym (ap (λ (b : Bool). b && f j) (lt-ltb j (i + 1) (omega arith)))
    pick false q = or-false (ltb j i && f j) ∙ ap (λ (b : Bool). b && f j) (before-next j i (eqb-false j i q))
