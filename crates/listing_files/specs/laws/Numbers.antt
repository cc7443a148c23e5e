-- Numbers that rise: a number is among those of the marked rows exactly if its row is marked.
use Rattle.std.specs.Prelude.{Bool, true, false, cond, ◌||◌, List, [], ◌∷◌, ◌≡◌, refl, ℕ, zero, suc, ◌≤◌, ◌<◌, eqb, length, get_or}
use Rattle.std.proofs.Common.{ap, ◌∙◌, arith, eq-eqb, ne_eqb}
use Rattle.cells.specs.row_sets.Columns.{is_marked, picked}
use Rattle.library_spec.specs.Listing.{is_in}
use Rattle.schema_spec.specs.Types.{Types}
use Rattle.table_laws.specs.Columns.{numbers_of}
use Rattle.table_spec.specs.Conditions.{RowAt, WellFormed}
use Rattle.table_spec.specs.Rows.{Row}

-- each number is above those before it, and none is below k
pub data Rising : ℕ → List ℕ → Type 0 where
  none : {k : ℕ} → Rising k []
  next : {k x : ℕ} {xs : List ℕ} → k ≤ x → Rising (suc x) xs → Rising k (x ∷ xs)

-- ---- the numbers of a table
rises-from : (k : ℕ) (rows : List Row) → ((q : Row) → RowAt rows 0 q → k ≤ q.number)
    → ((i : ℕ) (q r : Row) → RowAt rows i q → RowAt rows (suc i) r → q.number < r.number) → Rising k (numbers_of rows)
rises-from k [] f h = none
rises-from k (r ∷ rows) f h = next (f r refl) (rises-from (suc r.number) rows (λ q a. h 0 r q refl a) (λ i x y a b. h (suc i) x y a b))

pub numbers-rise : (s : Types) (rows : List Row) → WellFormed s rows → Rising 0 (numbers_of rows)
numbers-rise s rows w = rises-from 0 rows (λ q a. omega arith) (λ i q r a b. (w.later_row i q r a b).rises)

-- ---- marked numbers
above-not-in : (j k : ℕ) (m xs : List ℕ) → Rising k xs → j < k → is_in j (picked m xs) ≡ false
unfolding picked
above-not-in j k m [] r l = refl
above-not-in j k [] (x ∷ xs) r l = refl
above-not-in j k (b ∷ m) (x ∷ xs) (next a r) l = by (eqb b 1) (above-not-in j (suc x) m xs r (omega arith))
  where
    by : (t : Bool) → is_in j (picked m xs) ≡ false → is_in j (cond t (x ∷ picked m xs) (picked m xs)) ≡ false
    by true h = ap (λ (u : Bool). u || is_in j (picked m xs)) (ne_eqb j x (λ e. omega arith)) ∙ h
    by false h = h

pub in-picked : (k : ℕ) (m xs : List ℕ) → Rising k xs → (r : ℕ) → r < length xs → is_in (get_or xs r 0) (picked m xs) ≡ is_marked m r
unfolding picked
in-picked k m [] h r l = absurd (omega arith)
in-picked k [] (x ∷ xs) h r l = refl
in-picked k (b ∷ m) (x ∷ xs) (next a h) zero l = by (eqb b 1) refl
  where
    by : (t : Bool) → eqb b 1 ≡ t → is_in x (cond t (x ∷ picked m xs) (picked m xs)) ≡ t
    by true e = ap (λ (u : Bool). u || is_in x (picked m xs)) (eq-eqb x x refl)
    by false e = above-not-in x (suc x) m xs h (omega arith)
in-picked k (b ∷ m) (x ∷ xs) (next a h) (suc r) l =
    by (eqb b 1) (in-picked (suc x) m xs h r (omega arith)) ∙ refl
  where
    above : (y : ℕ) (ys : List ℕ) (i : ℕ) → Rising y ys → i < length ys → y ≤ get_or ys i 0
    above y [] i v u = absurd (omega arith)
    above y (z ∷ ys) zero (next p v) u = p
    above y (z ∷ ys) (suc i) (next p v) u = let q = above (suc z) ys i v (omega arith) in omega arith

    by : (t : Bool) → is_in (get_or xs r 0) (picked m xs) ≡ is_marked m r → is_in (get_or xs r 0) (cond t (x ∷ picked m xs) (picked m xs)) ≡ is_marked m r
    by true q =
        let p = above (suc x) xs r h (omega arith) in
        ap (λ (u : Bool). u || is_in (get_or xs r 0) (picked m xs)) (ne_eqb (get_or xs r 0) x (λ e. omega arith)) ∙ q
    by false q = q
