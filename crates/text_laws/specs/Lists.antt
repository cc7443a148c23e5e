-- Laws of lists as finite sets: tests over all elements, filters, joined lists, equal lists.
use Rattle.std.specs.Prelude.{Bool, true, false, cond, not, ◌&&◌, ◌||◌, ◌⊎◌, ◌≡◌, refl, ℕ, T, eqb}
use mathlib.Core.List.Memᴰ.{append_cases}
use mathlib.Core.List.Memᴰ.{append_left}
use mathlib.Core.List.Memᴰ.{append_right}
use mathlib.Core.List.Memᴰ.{head as here}
use mathlib.Core.List.Memᴰ.{tail as there}
use mathlib.Core.List.{List, [], ◌∷◌, ◌++◌, map, Memᴰ as In}
use Rattle.std.proofs.Common.{inl, inr, ⊎_elim, sym, ap, subst, ◌∙◌, eqb→eq}
use Rattle.std.proofs.Math.Option.{Option, none, some}
use Rattle.std.proofs.Math.Dec.{eqb_refl}
use Rattle.text_laws.specs.Tests.{or_left, or_right, or_cases, and_intro, and_cases, failed, same_test}
use Rattle.text_spec.specs.Lists.{any_of, all_of, filter_by, gather, same_by, same_bytes, is_empty, is_none}

module _ {A : Type 0} where
  pub any-in : (f : A → Bool) {y : A} {xs : List A} → In y xs → T (f y) → T (any_of f xs)
  any-in f (here {x = x} {xs = xs} e) t = or_left (f x) (any_of f xs) (subst (λ (z : A). T (f z)) e t)
  any-in f (there {x = x} {xs = xs} i) t = or_right (f x) (any_of f xs) (any-in f i t)

  pub in-any : (f : A → Bool) (xs : List A) → T (any_of f xs) → (y : A) × In y xs × T (f y)
  in-any f [] t = absurd t
  in-any f (x ∷ xs) t =
      ⊎_elim (λ h. (x, here refl, h))
      (λ h.
      let r = in-any f xs h in
      (r.0, there r.1, r.2)) (or_cases (f x) (any_of f xs) t)

  pub any-of-cong : (f g : A → Bool) (xs : List A) → ((x : A) → f x ≡ g x) → any_of f xs ≡ any_of g xs
  any-of-cong f g [] h = refl
  any-of-cong f g (x ∷ xs) h = ap (λ (b : Bool). b || any_of f xs) (h x) ∙ ap (λ (b : Bool). g x || b) (any-of-cong f g xs h)

  pub any-of-cond : (f : A → Bool) (b : Bool) (x : A) (xs : List A) → any_of f (cond b (x ∷ xs) xs) ≡ ((b && f x) || any_of f xs)
  any-of-cond f true x xs = refl
  any-of-cond f false x xs = refl

  pub any-of-filter : (f g : A → Bool) (xs : List A) → any_of f (filter_by g xs) ≡ any_of (λ x. g x && f x) xs
  any-of-filter f g [] = refl
  any-of-filter f g (x ∷ xs) = any-of-cond f (g x) x (filter_by g xs) ∙ ap (λ (b : Bool). (g x && f x) || b) (any-of-filter f g xs)

  pub filled-any : (xs : List A) → not (is_empty xs) ≡ any_of (λ x. true) xs
  filled-any [] = refl
  filled-any (x ∷ xs) = refl

  pub all_in : (f : A → Bool) {y : A} {xs : List A} → T (all_of f xs) → In y xs → T (f y)
  all_in f t (here {x = x} {xs = xs} e) = subst (λ (z : A). T (f z)) (sym e) (and_cases (f x) (all_of f xs) t).0
  all_in f t (there {x = x} {xs = xs} i) = all_in f (and_cases (f x) (all_of f xs) t).1 i

  pub in_all : (f : A → Bool) (xs : List A) → ((y : A) → In y xs → T (f y)) → T (all_of f xs)
  in_all f [] h = tt
  in_all f (x ∷ xs) h = and_intro (f x) (all_of f xs) (h x (here refl)) (in_all f xs (λ y i. h y (there i)))

  pub all_append : (f : A → Bool) (xs ys : List A) → T (all_of f xs) → T (all_of f ys) → T (all_of f (xs ++ ys))
  all_append f [] ys t u = u
  all_append f (x ∷ xs) ys t u =
      let c = and_cases (f x) (all_of f xs) t in
      and_intro (f x) (all_of f (xs ++ ys)) c.0 (all_append f xs ys c.1 u)

  pub all_snoc : (f : A → Bool) (xs : List A) (y : A) → T (all_of f xs) → T (f y) → T (all_of f (xs ++ (y ∷ [])))
  all_snoc f xs y t u = all_append f xs (y ∷ []) t (and_intro (f y) true u tt)

  chosen : (b : Bool) (x y : A) (r : List A) → T b → y ≡ x → In y (cond b (x ∷ r) r)
  chosen true x y r t e = here e
  chosen false x y r t e = absurd t

  passed_over : (b : Bool) (x y : A) (r : List A) → In y r → In y (cond b (x ∷ r) r)
  passed_over true x y r i = there i
  passed_over false x y r i = i

  chosen-or-later : (b : Bool) (x y : A) (r : List A) → In y (cond b (x ∷ r) r) → (T b × (y ≡ x)) ⊎ In y r
  chosen-or-later true x y r (here e) = inl (tt, e)
  chosen-or-later true x y r (there i) = inr i
  chosen-or-later false x y r i = inr i

  pub in-filter : (f : A → Bool) {y : A} {xs : List A} → In y xs → T (f y) → In y (filter_by f xs)
  in-filter f {y} (here {x = x} {xs = xs} e) t = chosen (f x) x y (filter_by f xs) (subst (λ (z : A). T (f z)) e t) e
  in-filter f {y} (there {x = x} {xs = xs} i) t = passed_over (f x) x y (filter_by f xs) (in-filter f i t)

  pub filter-in : (f : A → Bool) (xs : List A) {y : A} → In y (filter_by f xs) → In y xs × T (f y)
  filter-in f [] {y} i = elim i [ ]
  filter-in f (x ∷ xs) {y} i =
      ⊎_elim (λ h. (here h.1, subst (λ (z : A). T (f z)) (sym h.1) h.0))
      (λ j.
      let r = filter-in f xs j in
      (there r.0, r.1)) (chosen-or-later (f x) x y (filter_by f xs) i)

  -- tests that agree on the elements of a list filter it alike
  pub filter-cong : (f g : A → Bool) (xs : List A) → ((y : A) → In y xs → f y ≡ g y) → filter_by f xs ≡ filter_by g xs
  filter-cong f g [] h = refl
  filter-cong f g (x ∷ xs) h =
      ap (λ (b : Bool). cond b (x ∷ filter_by f xs) (filter_by f xs)) (h x (here refl))
      ∙ ap (λ (r : List A). cond (g x) (x ∷ r) r) (filter-cong f g xs (λ y i. h y (there i)))

  -- one filter is two, one after the other, where a test passes exactly if both do
  pub filter-filter : (f g k : A → Bool) (xs : List A) → ((y : A) → In y xs → T (f y) → T (k y) × T (g y)) → ((y : A) → In y xs → T (k y) → T (g y) → T (f y))
      → filter_by f xs ≡ filter_by g (filter_by k xs)
  filter-filter f g k [] p q = refl
  filter-filter f g k (x ∷ xs) p q =
      pick (f x) (k x) (g x) refl (p x (here refl)) (q x (here refl)) (filter-filter f g k xs (λ y i. p y (there i)) (λ y i. q y (there i)))
    where
      pick : (a b c : Bool) → g x ≡ c → (T a → T b × T c) → (T b → T c → T a) → filter_by f xs ≡ filter_by g (filter_by k xs)
          → cond a (x ∷ filter_by f xs) (filter_by f xs) ≡ filter_by g (cond b (x ∷ filter_by k xs) (filter_by k xs))
      pick true true true e u v h = rw (e, filter_by) (ap {B = List A} (λ l. x ∷ l) h)
      pick true true false e u v h = absurd (u tt).1
      pick true false c e u v h = absurd (u tt).0
      pick false true true e u v h = absurd (v tt tt)
      pick false true false e u v h = rw (e, filter_by) h
      pick false false c e u v h = h

  pub filter-append : (f : A → Bool) (xs ys : List A) → filter_by f (xs ++ ys) ≡ filter_by f xs ++ filter_by f ys
  filter-append f [] ys = refl
  filter-append f (x ∷ xs) ys = pick (f x) (filter-append f xs ys)
    where
      pick : (b : Bool) → filter_by f (xs ++ ys) ≡ filter_by f xs ++ filter_by f ys
          → cond b (x ∷ filter_by f (xs ++ ys)) (filter_by f (xs ++ ys)) ≡ cond b (x ∷ filter_by f xs) (filter_by f xs) ++ filter_by f ys
      pick true h = ap {B = List A} (λ l. x ∷ l) h
      pick false h = h

  pub empty_of : {xs : List A} → T (is_empty xs) → xs ≡ []
  empty_of {xs = []} t = refl
  empty_of {xs = x ∷ xs} t = absurd t

  pub member-fills : {xs : List A} {y : A} → In y xs → T (is_empty xs) → ⊥
  member-fills (here e) t = t
  member-fills (there i) t = t

  pub is-none : (o : Option A) → T (is_none o) → o ≡ none
  is-none none t = refl
  is-none (some x) t = absurd t

  -- a list without members is empty
  pub memberless : (xs : List A) → ((y : A) → In y xs → ⊥) → xs ≡ []
  memberless [] h = refl
  memberless (x ∷ xs) h = absurd (h x (here refl))

  -- two lists that join to nothing are empty
  pub append-empty : (xs ys : List A) → xs ++ ys ≡ [] → (xs ≡ []) × (ys ≡ [])
  append-empty [] ys e = (refl, e)
  append-empty (x ∷ xs) ys e =
      let z : ◌≡◌ {A = Bool} (is_empty {A = A} (x ∷ (xs ++ ys))) (is_empty {A = A} []) = ap is_empty e in
      absurd (subst T (sym z) tt)

  -- a list is split in one way at the first element with a property
  pub first-split-once : (P : A → Type 0) (u v : List A) {x y : A} {r q : List A} → u ++ (x ∷ r) ≡ v ++ (y ∷ q) → P x → P y
      → ((z : A) → In z u → P z → ⊥) → ((z : A) → In z v → P z → ⊥) → (u ≡ v) × (x ∷ r ≡ y ∷ q)
  first-split-once P [] [] e p t f g = (refl, e)
  first-split-once P [] (b ∷ v) {x} e p t f g = absurd (g x (here (cc)) p)
  first-split-once P (a ∷ u) [] {y = y} e p t f g = absurd (f y (here (cc)) t)
  first-split-once P (a ∷ u) (b ∷ v) {x} {y} {r} {q} e p t f g =
      let tails : u ++ (x ∷ r) ≡ v ++ (y ∷ q) = cc in
      let s = first-split-once P u v tails p t (λ z i. f z (there i)) (λ z i. g z (there i)) in
      let h : a ≡ b = cc in
      (ap (λ (l : List A). a ∷ l) s.0 ∙ ap (λ (c : A). c ∷ v) h, s.1)

  -- .. and in one way after the elements at its front that pass a test
  pub span-once : (f : A → Bool) (u v : List A) {x y : A} {r q : List A} → u ++ (x ∷ r) ≡ v ++ (y ∷ q) → T (all_of f u) → T (all_of f v)
      → f x ≡ false → f y ≡ false → (u ≡ v) × (x ∷ r ≡ y ∷ q)
  span-once f u v e p q g h =
      first-split-once (λ z. f z ≡ false) u v e g h (λ z i k. failed k (all_in f p i)) (λ z i k. failed k (all_in f q i))

  pub append-cancel : (u : List A) {v w : List A} → u ++ v ≡ u ++ w → v ≡ w
  append-cancel [] e = e
  append-cancel (x ∷ u) {v} {w} e =
      let d : u ++ v ≡ u ++ w = cc in
      append-cancel u d

  -- a test for elements that tells equal ones tells equal lists
  pub same_lists : (same : A → A → Bool) → ((x y : A) → T (same x y) → x ≡ y) → (xs ys : List A) → T (same_by same xs ys) → xs ≡ ys
  same_lists same h [] [] t = refl
  same_lists same h [] (y ∷ ys) t = absurd t
  same_lists same h (x ∷ xs) [] t = absurd t
  same_lists same h (x ∷ xs) (y ∷ ys) t =
      let c = and_cases (same x y) (same_by same xs ys) t in
      ap (λ (z : A). z ∷ xs) (h x y c.0) ∙ ap (λ (l : List A). y ∷ l) (same_lists same h xs ys c.1)

  pub same-itself : (same : A → A → Bool) → ((x : A) → T (same x x)) → (xs : List A) → T (same_by same xs xs)
  same-itself same h [] = tt
  same-itself same h (x ∷ xs) = and_intro (same x x) (same_by same xs xs) (h x) (same-itself same h xs)

pub bytes-equal : (u v : List ℕ) → T (same_bytes u v) → u ≡ v
bytes-equal u v t = same_lists eqb eqb→eq u v t

pub bytes_same : (u : List ℕ) → T (same_bytes u u)
bytes_same u = same-itself eqb eqb_refl u

module _ {A B : Type 0} where
  -- some y for some x, or some x for some y
  pub any-of-any : (h : A → B → Bool) (g : B → Bool) (xs : List A) (ys : List B) → any_of (λ y. any_of (λ x. h x y) xs && g y) ys ≡ any_of (λ x. any_of (λ y. h x y && g y) ys) xs
  any-of-any h g xs ys = same_test (any_of (λ y. any_of (λ x. h x y) xs && g y) ys) (any_of (λ x. any_of (λ y. h x y && g y) ys) xs) to from
    where
      to : T (any_of (λ y. any_of (λ x. h x y) xs && g y) ys) → T (any_of (λ x. any_of (λ y. h x y && g y) ys) xs)
      to t =
          let y = in-any (λ y. any_of (λ x. h x y) xs && g y) ys t in
          let c = and_cases (any_of (λ x. h x y.0) xs) (g y.0) y.2 in
          let x = in-any (λ x. h x y.0) xs c.0 in
          any-in (λ x. any_of (λ y. h x y && g y) ys) x.1 (any-in (λ z. h x.0 z && g z) y.1 (and_intro (h x.0 y.0) (g y.0) x.2 c.1))

      from : T (any_of (λ x. any_of (λ y. h x y && g y) ys) xs) → T (any_of (λ y. any_of (λ x. h x y) xs && g y) ys)
      from t =
          let x = in-any (λ x. any_of (λ y. h x y && g y) ys) xs t in
          let y = in-any (λ z. h x.0 z && g z) ys x.2 in
          let c = and_cases (h x.0 y.0) (g y.0) y.2 in
          any-in (λ y. any_of (λ x. h x y) xs && g y) y.1 (and_intro (any_of (λ x. h x y.0) xs) (g y.0) (any-in (λ x. h x y.0) x.1 c.0) c.1)

  pub in-gather : (f : A → List B) {x : A} {xs : List A} {y : B} → In x xs → In y (f x) → In y (gather f xs)
  in-gather f {y} (here {xs = xs} e) j = append_left (gather f xs) (subst (λ (z : A). In y (f z)) e j)
  in-gather f (there {x = x} i) j = append_right (f x) (in-gather f i j)

  pub gather-in : (f : A → List B) (xs : List A) {y : B} → In y (gather f xs) → (x : A) × In x xs × In y (f x)
  gather-in f [] {y} i = elim i [ ]
  gather-in f (x ∷ xs) {y} i =
      ⊎_elim (λ j. (x, here refl, j))
      (λ j.
      let r = gather-in f xs j in
      (r.0, there r.1, r.2)) (append_cases (f x) i)

  pub in_map : (f : A → B) {x : A} {xs : List A} → In x xs → In (f x) (map f xs)
  in_map f (here e) = here (ap f e)
  in_map f (there i) = there (in_map f i)

  pub map-in : (f : A → B) (xs : List A) {y : B} → In y (map f xs) → (x : A) × In x xs × (y ≡ f x)
  map-in f [] {y} i = elim i [ ]
  map-in f (x ∷ xs) {y} (here e) = (x, here refl, e)
  map-in f (x ∷ xs) {y} (there i) =
      let r = map-in f xs i in
      (r.0, there r.1, r.2)
