-- Refusals 2 and 3 are listed exactly where they apply, for every text; and places in a list.
use Rattle.std.specs.Prelude.{Bool, true, false, cond, ◌||◌, ◌⊎◌, ◌≡◌, refl, ℕ, zero, suc, ◌+◌, ◌≤◌, ◌<◌, T, ltb, length, drop}
use mathlib.Core.List.Memᴰ.{append_right}
use mathlib.Core.List.Memᴰ.{head as here}
use mathlib.Core.List.Memᴰ.{tail as there}
use mathlib.Core.List.{List, [], ◌∷◌, ◌++◌, Memᴰ as In}
use Rattle.std.proofs.Common.{inl, inr, ⊎_elim, sym, ap, ap₂, subst, ◌∙◌, arith, ltb→lt, lt→ltb, nltb→le}
use Rattle.std.proofs.lemmas.List.{drop-append-le}
use Rattle.text_laws.specs.Lists.{empty_of}
use Rattle.text_laws.specs.Order.{Found, Listed, found-given, found_all, listed-given, listed-all, number-from-2, first-once}
use Rattle.text_laws.specs.Refusals.{given-free}
use Rattle.text_laws.specs.Tests.{or_left, or_right, or_cases, not-intro}
use Rattle.text_spec.specs.Bytes.{is_foreign}
use Rattle.text_spec.specs.Lists.{is_empty, places_from}
use Rattle.text_spec.specs.Refusals.{Reason, bad_record, bad_length, bad_byte, Refusal, at, Outcome, refused, IsFirst, Judged, turned-back, taken}
use Rattle.text_spec.specs.Texts.{length_refusals, byte_refusals, SplitAt, LengthApplies, ByteApplies}

module _ {A : Type 0} where
  -- a list is split at its first element, and further on where its rest is
  abbrev pub split-first : (x : A) (xs : List A) → SplitAt (x ∷ xs) 0
  split-first x xs = record { before = []; here = x; after = xs; joined = refl; placed = refl }

  abbrev pub split-later : {xs : List A} {k : ℕ} (x : A) → SplitAt xs k → SplitAt (x ∷ xs) (suc k)
  split-later x s =
      record { before = x ∷ s.before; here = s.here; after = s.after; joined = ap {B = List A} (λ l. x ∷ l) s.joined; placed = ap suc s.placed }

  -- an element after the first n stands at a place not before n, ..
  pub drop-split : (n : ℕ) (xs : List A) {x : A} → In x (drop n xs) → (i : ℕ) × (s : SplitAt xs i) × (n ≤ i) × (s.here ≡ x)
  drop-split n [] {x} i = nothing n i
    where
      nothing : {B : Type 0} (n : ℕ) → In x (drop {A = A} n []) → B
      nothing zero i = elim i [ ]
      nothing (suc n) i = elim i [ ]
  drop-split zero (y ∷ xs) (here e) = (0, split-first y xs, omega arith, sym e)
  drop-split zero (y ∷ xs) (there i) =
      let r = drop-split 0 xs i in
      (suc r.0, split-later y r.1, omega arith, r.3)
  drop-split (suc n) (y ∷ xs) i =
      let r = drop-split n xs i in
      let l : n ≤ r.0 = r.2 in
      (suc r.0, split-later y r.1, omega arith, r.3)

  -- .. and conversely
  pub split-drop : (n : ℕ) {xs : List A} {i : ℕ} (s : SplitAt xs i) → n ≤ i → In s.here (drop n xs)
  split-drop n s l =
      subst (λ (r : List A). In s.here (drop n r)) (sym s.joined)
      (subst (λ (r : List A). In s.here r) (sym (drop-append-le n s.before (s.here ∷ s.after) (omega (arith, s.placed))))
      (append_right (drop n s.before) (here refl)))

  -- the places of the elements that pass a test
  pub places-split : (f : A → Bool) (j : ℕ) (xs : List A) {k : ℕ} → In k (places_from j f xs) → (i : ℕ) × (k ≡ j + i) × (s : SplitAt xs i) × T (f s.here)
  places-split f j [] {k} i = elim i [ ]
  places-split f j (x ∷ xs) {k} i = go (f x) refl i (λ m. places-split f (suc j) xs m)
    where
      later : (i : ℕ) × (k ≡ suc j + i) × (s : SplitAt xs i) × T (f s.here) → (i : ℕ) × (k ≡ j + i) × (s : SplitAt (x ∷ xs) i) × T (f s.here)
      later (i, e, s, t) = (suc i, omega arith, split-later x s, t)

      go : (b : Bool) → f x ≡ b → In k (cond b (j ∷ places_from (suc j) f xs) (places_from (suc j) f xs))
          → (In k (places_from (suc j) f xs) → (i : ℕ) × (k ≡ suc j + i) × (s : SplitAt xs i) × T (f s.here)) → (i : ℕ) × (k ≡ j + i) × (s : SplitAt (x ∷ xs) i) × T (f s.here)
      go true e (here m) rest = (0, omega arith, split-first x xs, subst T (sym e) tt)
      go true e (there m) rest = later (rest m)
      go false e m rest = later (rest m)

  pub split_places : (f : A → Bool) (j : ℕ) (u : List A) (x : A) (v : List A) → T (f x) → In (j + length u) (places_from j f (u ++ (x ∷ v)))
  split_places f j [] x v t = go (f x) t
    where
      go : (b : Bool) → T b → In (j + 0) (cond b (j ∷ places_from (suc j) f v) (places_from (suc j) f v))
      go true t = here {x = j} (omega arith)
      go false t = absurd t
  split_places f j (y ∷ u) x v t = go (f y) (split_places f (suc j) u x v t)
    where
      go : (b : Bool) → In (suc j + length u) (places_from (suc j) f (u ++ (x ∷ v)))
          → In (j + suc (length u)) (cond b (j ∷ places_from (suc j) f (u ++ (x ∷ v))) (places_from (suc j) f (u ++ (x ∷ v))))
      go true i = there (subst (λ (k : ℕ). In k (places_from (suc j) f (u ++ (x ∷ v)))) (omega arith) i)
      go false i = subst (λ (k : ℕ). In k (places_from (suc j) f (u ++ (x ∷ v)))) (omega arith) i

-- 2
pub length_found : (Applies : Reason → ℕ → Type 0) (limit : ℕ) (text : List ℕ) → ((k : ℕ) → LengthApplies limit text k → Applies bad_length k) → Found Applies (length_refusals limit text)
length_found Applies limit text h =
    found-given Applies (is_empty text || ltb limit (length text)) (at bad_length 0)
    (λ t. h 0 (⊎_elim (λ e. inl (empty_of e)) (λ l. inr (ltb→lt limit (length text) l)) (or_cases (is_empty text) (ltb limit (length text)) t), refl))

pub length-listed : (limit : ℕ) (text : List ℕ) (k : ℕ) → LengthApplies limit text k → Listed (length_refusals limit text) bad_length k
length-listed limit text k (c, e) =
    subst (λ (j : ℕ). Listed (length_refusals limit text) bad_length j) (sym e) (listed-given (is_empty text || ltb limit (length text)) bad_length 0 (test c))
  where
    test : (text ≡ []) ⊎ (limit < length text) → T (is_empty text || ltb limit (length text))
    test (inl m) = or_left (is_empty text) (ltb limit (length text)) (subst (λ (l : List ℕ). T (is_empty l)) (sym m) tt)
    test (inr l) = or_right (is_empty text) (ltb limit (length text)) (lt→ltb limit (length text) l)

-- 3
pub bytes-found : (Applies : Reason → ℕ → Type 0) (text : List ℕ) → ((k : ℕ) → ByteApplies text k → Applies bad_byte k) → Found Applies (byte_refusals text)
bytes-found Applies text h = found_all Applies bad_byte (places_from 0 is_foreign text) each
  where
    each : (k : ℕ) → In k (places_from 0 is_foreign text) → Applies bad_byte k
    each k i =
        let r = places-split is_foreign 0 text i in
        subst (Applies bad_byte) (sym (r.1 ∙ omega arith)) (h r.0 (r.2, r.3))

pub bytes-listed : (text : List ℕ) (k : ℕ) → ByteApplies text k → Listed (byte_refusals text) bad_byte k
bytes-listed text k (s, t) =
    listed-all bad_byte
    (subst (λ (j : ℕ). In j (places_from 0 is_foreign text)) (omega (arith, s.placed))
    (subst (λ (l : List ℕ). In (0 + length s.before) (places_from 0 is_foreign l)) (sym s.joined) (split_places is_foreign 0 s.before s.here s.after t)))

-- a text against which 2 was not found is within its limit
pub length-within : (limit : ℕ) (text : List ℕ) → length_refusals limit text ≡ [] → length text ≤ limit
length-within limit text e =
    nltb→le limit (length text)
    (not-intro (ltb limit (length text)) (λ t. given-free (is_empty text || ltb limit (length text)) (at bad_length 0) e (or_right (is_empty text) (ltb limit (length text)) t)))

-- A text over its limit is refused by 2, where 1 does not apply; one within it that has a byte is not.
module _ {A : Type 0} (Applies : Reason → ℕ → Type 0) (Gives : A → Type 0) (limit : ℕ) (text : List ℕ) where
  pub over-length : ((k : ℕ) → Applies bad_record k → ⊥) → ((k : ℕ) → LengthApplies limit text k → Applies bad_length k) → limit < length text → {o : Outcome A}
      → Judged Applies Gives o → o ≡ refused (at bad_length 0)
  over-length no-1 is-2 l {o} j = judged-2 j
    where
      first : IsFirst Applies bad_length 0
      first =
          record {
            applies = is-2 0 (inr l, refl);
            lowest = λ q k x. number-from-2 q (λ e. no-1 k (subst (λ (r : Reason). Applies r k) e x));
            earliest = λ k x. omega arith;
          }

      judged-2 : {o : Outcome A} → Judged Applies Gives o → o ≡ refused (at bad_length 0)
      judged-2 (turned-back {f = f} x) =
          let e = first-once Applies x first in
          ap refused (ap₂ at e.0 e.1)
      judged-2 (taken n g) = absurd (n bad_length 0 first.applies)

  pub within-length : ((k : ℕ) → Applies bad_length k → LengthApplies limit text k) → 1 ≤ length text → length text ≤ limit → {f : Refusal}
      → Judged Applies Gives (refused f) → f.reason ≡ bad_length → ⊥
  within-length is-length more less {f} (turned-back x) e =
      pick (is-length f.place (subst (λ (r : Reason). Applies r f.place) e x.applies)).0
    where
      pick : (text ≡ []) ⊎ (limit < length text) → ⊥
      pick (inl m) = omega (arith, ap length m, more)
      pick (inr l) = omega (arith, l, less)

-- a list is split at each of its places, and at each of its elements
pub split_at : {A : Type 0} (xs : List A) (n : ℕ) → n < length xs → SplitAt xs n
split_at [] n h = absurd (omega arith)
split_at (x ∷ xs) zero h = split-first x xs
split_at (x ∷ xs) (suc n) h = split-later x (split_at xs n (omega arith))

pub in_split : {A : Type 0} (xs : List A) {x : A} → In x xs → (i : ℕ) × (s : SplitAt xs i) × (s.here ≡ x)
in_split xs i =
    let r = drop-split 0 xs i in
    (r.0, r.1, r.3)

pub split-in : {A : Type 0} {xs : List A} {i : ℕ} (s : SplitAt xs i) → In s.here xs
split-in s = split-drop 0 s (omega arith)
