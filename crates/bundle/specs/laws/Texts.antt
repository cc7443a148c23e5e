-- Refusals 2 and 3 of any text: the least place of each, or none.
use Rattle.std.specs.Prelude.{Bool, true, false, cond, ◌||◌, ◌≡◌, refl, ℕ, suc, ◌+◌, ◌≤◌, ◌<◌, ltb, length, Option, Some, None}
use mathlib.Core.List.Memᴰ.{head as here}
use mathlib.Core.List.Memᴰ.{tail as there}
use mathlib.Core.List.{List, [], ◌∷◌, Memᴰ as In}
use Rattle.std.proofs.Common.{sym, ap, subst, ◌∙◌, arith, lt-ltb, le-ltb}
use Rattle.std.proofs.Math.Option as Math
use Rattle.bundle.specs.laws.Order.{Least, least-all}
use Rattle.text.specs.lookup.Lookup.{found}
use Rattle.text_spec.specs.Bytes.{is_foreign}
use Rattle.text_spec.specs.Lists.{is_empty, first, places_from}
use Rattle.text_spec.specs.Refusals.{at, all_at, given, bad_length, bad_byte}
use Rattle.text_spec.specs.Texts.{length_refusals, byte_refusals}

-- ---- 2
module _ (limit : ℕ) (text : List ℕ) where
  wrong-length : (is_empty text || ltb limit (length text)) ≡ true → Least bad_length 0 (length_refusals limit text)
  wrong-length e = subst (λ (b : Bool). Least bad_length 0 (given b (at bad_length 0))) (sym e) (least-all bad_length 0 (0 ∷ []) (here refl) (λ x i. omega arith))

  pub empty-refused : length text ≡ 0 → Least bad_length 0 (length_refusals limit text)
  empty-refused e = wrong-length (go text e)
    where
      go : (t : List ℕ) → length t ≡ 0 → (is_empty t || ltb limit (length t)) ≡ true
      go [] e = refl
      go (b ∷ t) e = absurd (omega arith)

  pub long-refused : limit < length text → Least bad_length 0 (length_refusals limit text)
  long-refused h = wrong-length (go (is_empty text))
    where
      go : (b : Bool) → (b || ltb limit (length text)) ≡ true
      go true = refl
      go false = lt-ltb limit (length text) h

  pub length-right : (length text ≡ 0 → ⊥) → length text ≤ limit → length_refusals limit text ≡ []
  length-right n h = ap (λ (b : Bool). given b (at bad_length 0)) (go text n h)
    where
      go : (t : List ℕ) → (length t ≡ 0 → ⊥) → length t ≤ limit → (is_empty t || ltb limit (length t)) ≡ false
      go [] n h = absurd (n refl)
      go (b ∷ t) n h = le-ltb limit (length (b ∷ t)) h

-- ---- 3
module _ (f : ℕ → Bool) where
  places-between : (i : ℕ) (xs : List ℕ) (k : ℕ) → In k (places_from i f xs) → (i ≤ k) × (k < i + length xs)
  places-between i [] k m = elim m [ ]
  places-between i (x ∷ xs) k m = pick (f x) (places-between (suc i) xs k) m
    where
      pick : (b : Bool) → (In k (places_from (suc i) f xs) → (suc i ≤ k) × (k < suc i + length xs)) → In k (cond b (i ∷ places_from (suc i) f xs) (places_from (suc i) f xs))
          → (i ≤ k) × (k < i + suc (length xs))
      pick true h (here e) = (omega arith, omega arith)
      pick true h (there n) = let z = h n in let a = z.0 in let b = z.1 in (omega arith, omega arith)
      pick false h n = let z = h n in let a = z.0 in let b = z.1 in (omega arith, omega arith)

  -- the first place is the least
  first-least : (i : ℕ) (xs : List ℕ) (k : ℕ) (ks : List ℕ) → places_from i f xs ≡ k ∷ ks → (x : ℕ) → In x (places_from i f xs) → k ≤ x
  first-least i [] k ks e x m = elim m [ ]
  first-least i (y ∷ xs) k ks e x m = pick (f y) (λ n. places-between (suc i) xs x n) (first-least (suc i) xs k ks) e m
    where
      pick : (b : Bool) → (In x (places_from (suc i) f xs) → (suc i ≤ x) × (x < suc i + length xs))
          → (places_from (suc i) f xs ≡ k ∷ ks → (x : ℕ) → In x (places_from (suc i) f xs) → k ≤ x)
          → cond b (i ∷ places_from (suc i) f xs) (places_from (suc i) f xs) ≡ k ∷ ks → In x (cond b (i ∷ places_from (suc i) f xs) (places_from (suc i) f xs)) → k ≤ x
      pick true h g d (here q) = let z : i ≡ k = cc in omega arith
      pick true h g d (there n) = let z : i ≡ k = cc in let a = (h n).0 in omega arith
      pick false h g d n = g d x n

module _ (text : List ℕ) {r : Option ℕ} (e : found r ≡ first (places_from 0 is_foreign text)) where
  pub foreign-refused : {k : ℕ} → r ≡ Some k → Least bad_byte k (byte_refusals text)
  foreign-refused {k} u = go (places_from 0 is_foreign text) refl (sym (ap found u) ∙ e)
    where
      go : (ks : List ℕ) → places_from 0 is_foreign text ≡ ks → Math.some k ≡ first ks → Least bad_byte k (all_at bad_byte (places_from 0 is_foreign text))
      go [] p q = absurd (nothing q)
        where
          nothing : ◌≡◌ {A = Math.Option ℕ} (Math.some k) Math.none → ⊥
          nothing q = cc
      go (j ∷ ks) p q =
          let z : k ≡ j = cc in
          least-all bad_byte k (places_from 0 is_foreign text) (subst (In k) (sym p) (here z)) (λ x m. let y = first-least is_foreign 0 text j ks p x m in omega arith)

  pub none-foreign : r ≡ None → byte_refusals text ≡ []
  none-foreign u = ap (all_at bad_byte) (go (places_from 0 is_foreign text) refl (sym (ap found u) ∙ e))
    where
      go : (ks : List ℕ) → places_from 0 is_foreign text ≡ ks → Math.none ≡ first ks → places_from 0 is_foreign text ≡ []
      go [] p q = p
      go (j ∷ ks) p q = absurd (nothing q)
        where
          nothing : ◌≡◌ {A = Math.Option ℕ} Math.none (Math.some j) → ⊥
          nothing q = cc
