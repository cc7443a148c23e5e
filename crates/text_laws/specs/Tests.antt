-- Laws of tests: a test that passes, one that fails, and their conjunctions.
use Rattle.std.specs.Prelude.{Bool, true, false, cond, not, ◌&&◌, ◌||◌, ◌⊎◌, ◌≡◌, refl, ℕ, T, eqb}
use Rattle.std.proofs.Common.{inl, inr, sym, ap, subst, arith, eqb→eq}
use Rattle.std.proofs.Math.Dec.{eqb_refl}

-- What does not hold gives anything. `cc` shows 0 ≡ 1 from an equation between two constructors.
pub never : {A : Type 0} → ◌≡◌ {A = ℕ} 0 1 → A
never e = absurd (omega arith)

pub passed : {b : Bool} → b ≡ true → T b
passed e = subst T (sym e) tt

pub true_of : (b : Bool) → T b → b ≡ true
true_of true t = refl
true_of false t = absurd t

pub false_of : (b : Bool) → (T b → ⊥) → b ≡ false
false_of true n = absurd (n tt)
false_of false n = refl

pub failed : {b : Bool} → b ≡ false → T b → ⊥
failed e t = subst T e t

pub or_left : (a b : Bool) → T a → T (a || b)
or_left true b t = tt
or_left false b t = absurd t

pub or_right : (a b : Bool) → T b → T (a || b)
or_right true b t = tt
or_right false b t = t

pub or_cases : (a b : Bool) → T (a || b) → T a ⊎ T b
or_cases true b t = inl tt
or_cases false b t = inr t

pub and_intro : (a b : Bool) → T a → T b → T (a && b)
and_intro true b s t = t
and_intro false b s t = absurd s

pub and_cases : (a b : Bool) → T (a && b) → T a × T b
and_cases true b t = (tt, t)
and_cases false b t = absurd t

pub not-intro : (b : Bool) → (T b → ⊥) → T (not b)
not-intro true n = n tt
not-intro false n = tt

pub not-elim : (b : Bool) → T (not b) → T b → ⊥
not-elim true t u = t
not-elim false t u = u

-- a test either passes or fails
pub decided : (b : Bool) → T b ⊎ (T b → ⊥)
decided true = inl tt
decided false = inr (λ t. t)

-- two tests that pass together are equal
pub same_test : (a b : Bool) → (T a → T b) → (T b → T a) → a ≡ b
same_test true true f g = refl
same_test true false f g = absurd (f tt)
same_test false true f g = absurd (g tt)
same_test false false f g = refl

-- a test whose negation fails passes
pub not-not : (b : Bool) → (T (not b) → ⊥) → T b
not-not true n = tt
not-not false n = absurd (n tt)

-- a test fails if it is part of a disjunction that fails
pub or-false : (a b : Bool) → (a || b) ≡ false → (a ≡ false) × (b ≡ false)
or-false true b e = never (cc)
or-false false b e = (refl, e)

-- a choice by a test whose answer is known, as a test that passes or as an equation
pub cond-true : {A : Type 0} (b : Bool) (x y : A) → T b → cond b x y ≡ x
cond-true true x y t = refl
cond-true false x y t = absurd t

pub cond-false : {A : Type 0} (b : Bool) (x y : A) → (T b → ⊥) → cond b x y ≡ y
cond-false true x y n = absurd (n tt)
cond-false false x y n = refl

module _ {A : Type 0} {b : Bool} (x y : A) where
  pub cond_yes : b ≡ true → cond b x y ≡ x
  cond_yes e = ap (λ (t : Bool). cond t x y) e

  pub cond_no : b ≡ false → cond b x y ≡ y
  cond_no e = ap (λ (t : Bool). cond t x y) e

-- equality of numbers as a test is symmetric
pub eqb-sym : (a b : ℕ) → eqb a b ≡ eqb b a
eqb-sym a b = same_test (eqb a b) (eqb b a) (turned a b) (turned b a)
  where
    turned : (x y : ℕ) → T (eqb x y) → T (eqb y x)
    turned x y t = subst (λ (z : ℕ). T (eqb z x)) (eqb→eq x y t) (eqb_refl x)
