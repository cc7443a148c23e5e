-- What is computed once over a run of bytes holds at each byte of the run.
use Rattle.std.specs.Prelude.{Bool, true, false, cond, not, ◌||◌, ◌&&◌, List, [], ◌∷◌, ◌≡◌, refl, ℕ, zero, suc, ◌+◌, ◌≤◌, ◌<◌, T, eqb}
use Rattle.std.proofs.Common.{inl, inr, ⊎_elim, sym, ap, subst, ◌∙◌, eq-or-lt_of_le, arith, eqb→eq}
use mir.Val.{has_key}
use types.Run.{OneOf, hit}
use Rattle.text_laws.specs.Tests.{and_cases}
use Rattle.text_spec.specs.Bytes as Bytes
use Rattle.text_spec.specs.Bytes.{class_of, blank, letter, digit, markup, other, foreign}
use Rattle.text_spec.specs.Lists.{all_of}
use Rattle.text.specs.classes.Classes.{meant}
use Rattle.text.specs.declared.classes.Class.{Class}

-- b is among no arm's single numbers, as a match's `rest` says it, the last arm's first
abbrev pub NoneOf : List (List ℕ) → ℕ → Type 0
NoneOf [] b = Unit {0}
NoneOf (ks ∷ kss) b = NoneOf kss b × (OneOf ks b → ⊥)

abbrev keyed : List (List ℕ) → ℕ → Bool
keyed [] b = false
keyed (ks ∷ kss) b = has_key ks b || keyed kss b

not-keyed : (kss : List (List ℕ)) (b : ℕ) → NoneOf kss b → keyed kss b ≡ false
not-keyed [] b none = refl
not-keyed (ks ∷ kss) b none = step (has_key ks b) refl (not-keyed kss b none.0)
  where
    step : (h : Bool) → has_key ks b ≡ h → keyed kss b ≡ false → (h || keyed kss b) ≡ false
    step true e later = absurd (none.1 (hit ks b (subst T (sym e) tt)))
    step false e later = later

-- each byte of l, l + 1, .. (n of them) is a single number of some arm or passes the test
abbrev pub run : (ℕ → Bool) → List (List ℕ) → ℕ → ℕ → Bool
run f kss l zero = true
run f kss l (suc n) = (keyed kss l || f l) && run f kss (suc l) n

pub ranged : (f : ℕ → Bool) (kss : List (List ℕ)) (l n : ℕ) {b : ℕ} → T (run f kss l n) → l ≤ b → b < l + n → NoneOf kss b → T (f b)
ranged f kss l zero t lo hi none = absurd (omega arith)
ranged f kss l (suc n) {b} t lo hi none =
    let p = and_cases (keyed kss l || f l) (run f kss (suc l) n) t in
    ⊎_elim (λ e. subst (λ (x : ℕ). NoneOf kss x → T (f x)) e (λ m. subst (λ (h : Bool). T (h || f l)) (not-keyed kss l m) p.0) none)
    (λ lt. ranged f kss (suc l) n p.1 lt (omega arith) none)
    (eq-or-lt_of_le lo)

-- each of an arm's single numbers passes the test
pub listed : (f : ℕ → Bool) (ks : List ℕ) (b : ℕ) → T (all_of f ks) → OneOf ks b → T (f b)
listed f [] b t o = absurd o
listed f (x ∷ []) b t o = subst (λ (y : ℕ). T (f y)) (sym o) (and_cases (f x) true t).0
listed f (x ∷ y ∷ ys) b t (inl e) = subst (λ (y : ℕ). T (f y)) (sym e) (and_cases (f x) (all_of f (y ∷ ys)) t).0
listed f (x ∷ y ∷ ys) b t (inr o) = listed f (y ∷ ys) b (and_cases (f x) (all_of f (y ∷ ys)) t).1 o

abbrev number : Bytes.Class → ℕ
number blank = 0
number letter = 1
number digit = 2
number markup = 3
number other = 4
number foreign = 5

class_numbered : ℕ → Bytes.Class
class_numbered n = cond (eqb n 0) blank (cond (eqb n 1) letter (cond (eqb n 2) digit (cond (eqb n 3) markup (cond (eqb n 4) other foreign))))

class_back : (k : Bytes.Class) → class_numbered (number k) ≡ k
unfolding class_numbered
class_back blank = refl
class_back letter = refl
class_back digit = refl
class_back markup = refl
class_back other = refl
class_back foreign = refl

number-apart : (k l : Bytes.Class) → number k ≡ number l → k ≡ l
number-apart k l e = sym (class_back k) ∙ ap class_numbered e ∙ class_back l

-- the byte is of that class
abbrev pub is_class : Class → ℕ → Bool
is_class k b = eqb (number (meant k)) (number (class_of b))

pub class-is : (k : Class) (b : ℕ) → T (is_class k b) → meant k ≡ class_of b
class-is k b t = number-apart (meant k) (class_of b) (eqb→eq (number (meant k)) (number (class_of b)) t)

abbrev same : Bool → Bool → Bool
same true b = b
same false b = not b

same-equal : (a b : Bool) → T (same a b) → a ≡ b
same-equal true true t = refl
same-equal true false t = absurd t
same-equal false true t = absurd t
same-equal false false t = refl

-- a test by class that agrees with a test on the byte, by computing over all 256
pub by-class : (f : Bytes.Class → ℕ → Bool) (g : ℕ → Bool) (b : ℕ) {k : Bytes.Class} → T (run (λ x. same (f (class_of x) x) (g x)) [] 0 256) → b < 256 → k ≡ class_of b → f k b ≡ g b
by-class f g b t h e =
    ap (λ (c : Bytes.Class). f c b) e
    ∙ same-equal (f (class_of b) b) (g b) (ranged (λ x. same (f (class_of x) x) (g x)) [] 0 256 t (omega arith) (omega arith) tt)
