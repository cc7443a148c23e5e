-- What stands at marked rows, joined row by row, by the list of what stands there.
use Rattle.std.specs.Prelude.{Bool, true, false, cond, List, [], ◌∷◌, ◌++◌, map, ◌≡◌, refl, ℕ, zero, suc, ◌+◌, eqb, length, take}
use Rattle.std.proofs.Common.{append_assoc, append-nil, sym, ap, ◌∙◌, arith}
use Rattle.std.proofs.Math.Option.{some}
use Rattle.std.proofs.Math.ListN.{get_elem?}
use Rattle.std.proofs.Math.Seq.{take-nil}
use Rattle.cells.specs.row_sets.Columns.{mark, is_marked, picked, mark-test}
use Rattle.kept_rows.specs.Joined.{joined, total, rank}
use Rattle.table_laws.specs.Places.{none-some}
use Rattle.text_laws.specs.Tests.{never}
use Rattle.text_spec.specs.Lists.{gather, filter_by}

-- ---- the first row apart
joined-first : {A : Type 0} (f : ℕ → List A) (b : ℕ) (m : List ℕ) (n : ℕ) → joined f (b ∷ m) (suc n) ≡ cond (eqb b 1) (f 0) [] ++ joined (λ r. f (suc r)) m n
unfolding joined
joined-first f b m zero = sym (append-nil (cond (eqb b 1) (f 0) []))
joined-first {A} f b m (suc n) =
    ap (λ (l : List A). l ++ cond (is_marked m n) (f (suc n)) []) (joined-first f b m n)
    ∙ append_assoc (cond (eqb b 1) (f 0) []) (joined (λ r. f (suc r)) m n) (cond (is_marked m n) (f (suc n)) [])

total_first : (g : ℕ → ℕ) (b : ℕ) (m : List ℕ) (n : ℕ) → total g (b ∷ m) (suc n) ≡ cond (eqb b 1) (g 0) 0 + total (λ r. g (suc r)) m n
unfolding total
total_first g b m zero = omega arith
total_first g b m (suc n) = let h = total_first g b m n in omega arith

-- ---- lists of marked rows, by what stands there
pub joined-picked : {A B : Type 0} (f : ℕ → List B) (g : A → List B) (m : List ℕ) (xs : List A) → length m ≡ length xs
    → ((r : ℕ) (x : A) → get_elem? xs r ≡ some x → is_marked m r ≡ true → f r ≡ g x) → joined f m (length xs) ≡ gather g (picked m xs)
unfolding picked joined
joined-picked f g m [] e h = refl
joined-picked f g [] (x ∷ xs) e h = absurd (omega arith)
joined-picked {A} {B} f g (b ∷ m) (x ∷ xs) e h =
    joined-first f b m (length xs) ∙ ap (λ (l : List B). cond (eqb b 1) (f 0) [] ++ l) (joined-picked (λ r. f (suc r)) g m xs (omega arith) (λ r y a k. h (suc r) y a k))
    ∙ pick (eqb b 1) refl
  where
    pick : (t : Bool) → eqb b 1 ≡ t → cond t (f 0) [] ++ gather g (picked m xs) ≡ gather g (cond t (x ∷ picked m xs) (picked m xs))
    pick true q = ap (λ (l : List B). l ++ gather g (picked m xs)) (h 0 x refl q)
    pick false q = refl

pub gather-map : {A : Type 0} (h : A → ℕ) (xs : List A) → gather (λ x. h x ∷ []) xs ≡ map h xs
gather-map h [] = refl
gather-map h (x ∷ xs) = ap (λ (l : List ℕ). h x ∷ l) (gather-map h xs)

pub picked-length : {A : Type 0} (m : List ℕ) (xs : List A) → length m ≡ length xs → rank m (length xs) ≡ length (picked m xs)
unfolding picked total
picked-length m [] e = refl
picked-length [] (x ∷ xs) e = absurd (omega arith)
picked-length {A} (b ∷ m) (x ∷ xs) e =
    total_first (λ q. 1) b m (length xs) ∙ ap (λ (k : ℕ). cond (eqb b 1) 1 0 + k) (picked-length m xs (omega arith)) ∙ pick (eqb b 1)
  where
    pick : (t : Bool) → cond t 1 0 + length (picked m xs) ≡ length (cond t (x ∷ picked m xs) (picked m xs))
    pick true = omega arith
    pick false = omega arith

-- a marked row stands at its rank among the marked ones
pub picked-at : {A : Type 0} (m : List ℕ) (xs : List A) (r : ℕ) (x : A) → get_elem? xs r ≡ some x → is_marked m r ≡ true → get_elem? (picked m xs) (rank m r) ≡ some x
unfolding picked total
picked-at m [] r x a k = none-some a
picked-at [] (y ∷ xs) zero x a k = never (cc)
picked-at [] (y ∷ xs) (suc r) x a k = never (cc)
picked-at (b ∷ m) (y ∷ xs) zero x a k = pick (eqb b 1) k
  where
    pick : (t : Bool) → t ≡ true → get_elem? (cond t (y ∷ picked m xs) (picked m xs)) 0 ≡ some x
    pick true q = a
    pick false q = never (cc)
picked-at {A} (b ∷ m) (y ∷ xs) (suc r) x a k =
    ap (get_elem? (cond (eqb b 1) (y ∷ picked m xs) (picked m xs))) (total_first (λ q. 1) b m r) ∙ pick (eqb b 1) (picked-at m xs r x a k)
  where
    pick : (t : Bool) → get_elem? (picked m xs) (rank m r) ≡ some x → get_elem? (cond t (y ∷ picked m xs) (picked m xs)) (cond t 1 0 + rank m r) ≡ some x
    pick true h = let z : 1 + rank m r ≡ suc (rank m r) = omega arith in ap (get_elem? (y ∷ picked m xs)) z ∙ h
    pick false h = let z : 0 + rank m r ≡ rank m r = omega arith in ap (get_elem? (picked m xs)) z ∙ h

-- ---- marks by a test on a list
abbrev pub tested : {A : Type 0} → (A → Bool) → List A → List ℕ
tested k xs = map (λ x. mark (k x)) xs

pub tested-rank : {A : Type 0} (k : A → Bool) (xs : List A) (r : ℕ) → rank (tested k xs) r ≡ length (filter_by k (take r xs))
unfolding total
tested-rank k xs zero = refl
tested-rank {A} k [] (suc r) =
    let h = tested-rank k [] r in
    omega (arith, ap (λ (l : List A). length (filter_by k l)) (take-nil r))
tested-rank {A} k (x ∷ xs) (suc r) =
    total_first (λ q. 1) (mark (k x)) (tested k xs) r ∙ ap (λ (n : ℕ). cond (eqb (mark (k x)) 1) 1 0 + n) (tested-rank k xs r)
    ∙ ap (λ (t : Bool). cond t 1 0 + length (filter_by k (take r xs))) (mark-test (k x)) ∙ pick (k x)
  where
    pick : (t : Bool) → cond t 1 0 + length (filter_by k (take r xs)) ≡ length (cond t (x ∷ filter_by k (take r xs)) (filter_by k (take r xs)))
    pick true = omega arith
    pick false = omega arith
