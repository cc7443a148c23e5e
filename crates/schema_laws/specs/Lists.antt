-- Laws of lists that the reading of a schema needs: parts that are empty, lists with no element twice.
use Rattle.std.specs.Prelude.{Bool, true, false, cond, ◌≡◌, refl, ℕ, zero, suc, ◌≤◌, T, length, drop}
use mathlib.Core.List.Memᴰ.{append_cases}
use mathlib.Core.List.Memᴰ.{head as here}
use mathlib.Core.List.Memᴰ.{tail as there}
use mathlib.Core.List.{List, [], ◌∷◌, ◌++◌, map, reverse, reverse_aux, Memᴰ as In}
use Rattle.std.proofs.Common.{⊎_elim, sym, ap, subst, ◌∙◌, arith}
use Rattle.text_laws.specs.Lists.{in-filter, filter-in, append-empty, map-in}
use Rattle.text_laws.specs.Tests.{cond-true, cond-false}
use Rattle.text_spec.specs.Lists.{filter_by, gather, places_from}

module _ {A : Type 0} where
  pub in-nothing : {xs : List A} {y : A} → xs ≡ [] → In y xs → ⊥
  in-nothing {y = y} e i = elim (subst (λ (l : List A). In y l) e i) [ ]

  -- a part that is left out beyond n elements is empty only if there are at most n
  pub drop-empty : (n : ℕ) (xs : List A) → drop n xs ≡ [] → length xs ≤ n
  drop-empty zero [] e = omega arith
  drop-empty zero (x ∷ xs) e = absurd (in-nothing e (here refl))
  drop-empty (suc n) [] e = omega arith
  drop-empty (suc n) (x ∷ xs) e =
      let r = drop-empty n xs e in
      omega arith

  pub filter-empty : (f : A → Bool) {xs : List A} {y : A} → filter_by f xs ≡ [] → In y xs → T (f y) → ⊥
  filter-empty f e i t = in-nothing e (in-filter f i t)

  -- no element stands twice
  pub data Distinct : List A → Type 0 where
    none-twice : Distinct []
    next : {x : A} {xs : List A} → (In x xs → ⊥) → Distinct xs → Distinct (x ∷ xs)

  pub distinct_filter : (f : A → Bool) {xs : List A} → Distinct xs → Distinct (filter_by f xs)
  distinct_filter f none-twice = none-twice
  distinct_filter f (next {x = x} {xs = xs} n d) = pick (f x) (distinct_filter f d)
    where
      pick : (b : Bool) → Distinct (filter_by f xs) → Distinct (cond b (x ∷ filter_by f xs) (filter_by f xs))
      pick true h = next (λ i. n (filter-in f xs i).0) h
      pick false h = h

  pub distinct_append : {xs ys : List A} → Distinct xs → Distinct ys → ((x : A) → In x xs → In x ys → ⊥) → Distinct (xs ++ ys)
  distinct_append none-twice e h = e
  distinct_append (next {x = x} {xs = xs} n d) e h =
      next (λ i. ⊎_elim n (λ j. h x (here refl) j) (append_cases xs i)) (distinct_append d e (λ y i j. h y (there i) j))

module _ {A B : Type 0} where
  -- a function that tells the elements of a list apart keeps them distinct
  pub distinct-map : (f : A → B) {xs : List A} → Distinct xs → ((x y : A) → In x xs → In y xs → f x ≡ f y → x ≡ y) → Distinct (map f xs)
  distinct-map f none-twice h = none-twice
  distinct-map f (next {x = x} {xs = xs} n d) h =
      next (λ i.
      let r = map-in f xs i in
      n (subst (λ (z : A). In z xs) (sym (h x r.0 (here refl) (there r.1) r.2)) r.1))
      (distinct-map f d (λ y z i j. h y z (there i) (there j)))

  pub map-empty : (f : A → B) (xs : List A) → map f xs ≡ [] → xs ≡ []
  map-empty f [] e = refl
  map-empty f (x ∷ xs) e = absurd (in-nothing e (here refl))

  pub gather-empty : (f : A → List B) {x : A} {xs : List A} → gather f xs ≡ [] → In x xs → f x ≡ []
  gather-empty f e (here {x = y} {xs = xs} q) = ap f q ∙ (append-empty (f y) (gather f xs) e).0
  gather-empty f e (there {x = y} {xs = xs} i) = gather-empty f (append-empty (f y) (gather f xs) e).1 i

  map_reverse_aux : (f : A → B) (xs r : List A) → map f (reverse_aux xs r) ≡ reverse_aux (map f xs) (map f r)
  map_reverse_aux f [] r = refl
  map_reverse_aux f (x ∷ xs) r = map_reverse_aux f xs (x ∷ r)

  pub map-reverse : (f : A → B) (xs : List A) → map f (reverse xs) ≡ reverse (map f xs)
  map-reverse f xs = map_reverse_aux f xs []

module _ {A : Type 0} where
  -- no places are found exactly if no element passes the test
  pub places-none : (f : A → Bool) {x : A} (k : ℕ) {xs : List A} → places_from k f xs ≡ [] → In x xs → T (f x) → ⊥
  places-none f k e (here {x = y} {xs = xs} q) t =
      in-nothing (sym (cond-true (f y) (k ∷ places_from (suc k) f xs) (places_from (suc k) f xs) (subst (λ (z : A). T (f z)) q t)) ∙ e) (here refl)
  places-none f k e (there {x = y} {xs = xs} i) t = pick (f y) e (λ h. places-none f (suc k) h i t)
    where
      pick : (b : Bool) → cond b (k ∷ places_from (suc k) f xs) (places_from (suc k) f xs) ≡ [] → (places_from (suc k) f xs ≡ [] → ⊥) → ⊥
      pick true e h = in-nothing e (here refl)
      pick false e h = h e

  pub none-places : (f : A → Bool) (k : ℕ) (xs : List A) → ((x : A) → In x xs → T (f x) → ⊥) → places_from k f xs ≡ []
  none-places f k [] h = refl
  none-places f k (x ∷ xs) h =
      cond-false (f x) (k ∷ places_from (suc k) f xs) (places_from (suc k) f xs) (h x (here refl)) ∙ none-places f (suc k) xs (λ y i. h y (there i))
