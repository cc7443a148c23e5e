-- Places in a list that grows at its end.
use mathlib.Core.List.Memᴰ.{head as here}
use mathlib.Core.List.Memᴰ.{tail as there}
use mathlib.Core.List.{List, [], ◌∷◌, ◌++◌, Memᴰ as In}
use Rattle.std.specs.Prelude.{◌⊎◌, ◌≡◌, refl, ℕ, zero, suc, ◌<◌, length}
use Rattle.std.proofs.Common.{inl, inr, ⊎_elim, sym, ap, arith}
use Rattle.std.proofs.Math.Option.{Option, none, some}
use Rattle.std.proofs.Math.ListN.{get_elem?}
use Rattle.text_laws.specs.Tests.{never}

pub none-some : {A B : Type 0} {a : A} → none ≡ some a → B
none-some e = never (cc)

module _ {A : Type 0} where
  pub at_before : (xs ys : List A) (i : ℕ) (x : A) → get_elem? xs i ≡ some x → get_elem? (xs ++ ys) i ≡ some x
  at_before [] ys i x e = none-some e
  at_before (a ∷ xs) ys zero x e = e
  at_before (a ∷ xs) ys (suc i) x e = at_before xs ys i x e

  pub at-end : (xs : List A) (y : A) (ys : List A) → get_elem? (xs ++ y ∷ ys) (length xs) ≡ some y
  at-end [] y ys = refl
  at-end (x ∷ xs) y ys = at-end xs y ys

  pub at_only : (y : A) (i : ℕ) (x : A) → get_elem? (y ∷ []) i ≡ some x → (i ≡ 0) × (x ≡ y)
  at_only y zero x e = (refl, cc)
  at_only y (suc i) x e = none-some e

  pub at-before-or-end : (xs : List A) (y : A) (i : ℕ) (x : A) → get_elem? (xs ++ (y ∷ [])) i ≡ some x → (get_elem? xs i ≡ some x) ⊎ ((i ≡ length xs) × (x ≡ y))
  at-before-or-end [] y i x e = inr (at_only y i x e)
  at-before-or-end (a ∷ xs) y zero x e = inl e
  at-before-or-end (a ∷ xs) y (suc i) x e = ⊎_elim (λ h. inl h) (λ h. inr (ap suc h.0, h.1)) (at-before-or-end xs y i x e)

  pub at_bound : (xs : List A) (i : ℕ) (x : A) → get_elem? xs i ≡ some x → i < length xs
  at_bound [] i x e = none-some e
  at_bound (a ∷ xs) zero x e = omega arith
  at_bound (a ∷ xs) (suc i) x e = let h = at_bound xs i x e in omega arith

  pub at_some : (xs : List A) (i : ℕ) → i < length xs → (x : A) × (get_elem? xs i ≡ some x)
  at_some [] i h = absurd (omega arith)
  at_some (a ∷ xs) zero h = (a, refl)
  at_some (a ∷ xs) (suc i) h = at_some xs i (omega arith)

  pub in-at : {x : A} {xs : List A} → In x xs → (i : ℕ) × (get_elem? xs i ≡ some x)
  in-at (here e) = (0, ap {B = Option A} some (sym e))
  in-at (there m) = let r = in-at m in (suc r.0, r.1)

  pub at_in : (xs : List A) (i : ℕ) (x : A) → get_elem? xs i ≡ some x → In x xs
  at_in [] i x e = none-some e
  at_in (a ∷ xs) zero x e = let h : x ≡ a = cc in here h
  at_in (a ∷ xs) (suc i) x e = there (at_in xs i x e)
