-- Laws of the first position that passes a test: it is the first of the places that the definitions list, and the index of a name.
use Rattle.std.specs.Prelude.{Bool, true, false, cond, List, [], ◌∷◌, map, ◌≡◌, refl, ℕ, suc, ◌+◌, position, Option, Some}
use Rattle.std.specs.List.{position_from}
use Rattle.std.proofs.Math.Option.{some, none}
use Rattle.std.proofs.lemmas.Iterator.Adapters.{position_from-zero}
use Rattle.std.proofs.Common.{sym, ap, ◌∙◌, add-one, arith}
use Rattle.std.proofs.lemmas.Bool.Decides.{nat_tests}
use Rattle.schema_spec.specs.Schemas.{index_from}
use Rattle.text_spec.specs.Lists.{any_of, first, places_from, same_bytes}
use Rattle.text.specs.lookup.Lookup.{found}

module _ {A : Type 0} (test : A → Bool) where
  found-from : (k : ℕ) (xs : List A) → found (position_from test k xs) ≡ first (places_from k test xs)
  found-from k [] = refl
  found-from k (x ∷ xs) = pick (test x) (found-from (suc k) xs)
    where
      pick : (t : Bool) → found (position_from test (suc k) xs) ≡ first (places_from (suc k) test xs) → found (cond t (Some k) (position_from test (k + 1) xs)) ≡ first (cond t (k ∷ places_from (suc k) test xs) (places_from (suc k) test xs))
      pick true e = refl
      pick false e = rw (add-one k) e

  pub first-place : (xs : List A) {r : Option ℕ} → r ≡ position test xs → found r ≡ first (places_from 0 test xs)
  first-place xs e = ap found (e ∙ position_from-zero test xs) ∙ found-from 0 xs

  -- no element passes
  pub no-place : (xs : List A) → any_of test xs ≡ false → none ≡ first (places_from 0 test xs)
  no-place xs e = sym (none-from 0 xs e)
    where
      none-from : (k : ℕ) (ys : List A) → any_of test ys ≡ false → first (places_from k test ys) ≡ none
      none-from k [] e = refl
      none-from k (y ∷ ys) e = grind (arith, nat_tests, none-from (suc k) ys)

module _ {A : Type 0} (n : List ℕ) (name : A → List ℕ) where
  index-first : (k : ℕ) (ps : List A) → found (position_from (λ p. same_bytes n (name p)) k ps) ≡ index_from k n (map name ps)
  index-first k [] = refl
  index-first k (p ∷ ps) = pick (same_bytes n (name p)) (index-first (suc k) ps)
    where
      pick : (t : Bool) → found (position_from (λ p. same_bytes n (name p)) (suc k) ps) ≡ index_from (suc k) n (map name ps) → found (cond t (Some k) (position_from (λ p. same_bytes n (name p)) (k + 1) ps)) ≡ cond t (some k) (index_from (suc k) n (map name ps))
      pick true e = refl
      pick false e = rw (add-one k) e

  pub index-found : (ps : List A) {r : Option ℕ} → r ≡ position (λ p. same_bytes n (name p)) ps → found r ≡ index_from 0 n (map name ps)
  index-found ps e = ap found (e ∙ position_from-zero (λ p. same_bytes n (name p)) ps) ∙ index-first 0 ps
