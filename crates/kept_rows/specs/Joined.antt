-- What stands at the marked rows of a column, joined row by row, and how many rows are marked before a row.
use Rattle.std.specs.Prelude.{Bool, ◌≡◌}
use Rattle.std.proofs.Math.Bool.{true, false, cond}
use mathlib.Core.List.{List, [], ◌++◌, append-nil}
use Rattle.std.proofs.Math.Path.{refl, ap, ap₂}
use Rattle.std.proofs.Common.{◌∙◌, suc-mul, add-one}
use Prim.Native.Nat.{ℕ, zero, suc, ◌+◌, ◌*◌, ◌<◌, ◌≤◌}
use native.Mathlib.Omega.{arith}
use Rattle.std.proofs.Math.ListN.{length, length-append}
use Rattle.cells.specs.row_sets.Columns.{is_marked}

-- ---- definitions
module _ {A : Type 0} (f : ℕ → List A) (m : List ℕ) where
  -- the lists of the marked rows before r
  unfoldable pub joined : ℕ → List A
  joined zero = []
  joined (suc r) = joined r ++ cond (is_marked m r) (f r) []

module _ (size : ℕ → ℕ) (m : List ℕ) where
  -- the sizes of the marked rows before r, added up
  unfoldable pub total : ℕ → ℕ
  total zero = 0
  total (suc r) = total r + cond (is_marked m r) (size r) 0

-- how many rows before r are marked: the position of a marked row r among the marked ones
abbrev pub rank : List ℕ → ℕ → ℕ
rank m r = total (λ q. 1) m r

-- ---- laws
module _ {A : Type 0} (f : ℕ → List A) (m : List ℕ) where
  pub joined-none : joined f m 0 ≡ []
  unfolding joined
  joined-none = refl

  pub joined-marked : (r : ℕ) → is_marked m r ≡ true → joined f m (r + 1) ≡ joined f m r ++ f r
  unfolding joined
  joined-marked r e = ap (joined f m) (add-one r) ∙ ap (λ (b : Bool). joined f m r ++ cond b (f r) []) e

  pub joined-unmarked : (r : ℕ) → is_marked m r ≡ false → joined f m (r + 1) ≡ joined f m r
  unfolding joined
  joined-unmarked r e = ap (joined f m) (add-one r) ∙ ap (λ (b : Bool). joined f m r ++ cond b (f r) []) e ∙ append-nil (joined f m r)

  -- lists that agree at each row
  pub joined-cong : (g : ℕ → List A) (n : ℕ) → ((r : ℕ) → r < n → f r ≡ g r) → joined f m n ≡ joined g m n
  unfolding joined
  joined-cong g zero h = refl
  joined-cong g (suc n) h =
      ap₂ (λ (u v : List A). u ++ cond (is_marked m n) v []) (joined-cong g n (λ r l. h r (omega arith))) (h n (omega arith))

  -- their length is the sum of their lengths
  pub joined_length : (size : ℕ → ℕ) (n : ℕ) → ((r : ℕ) → r < n → length (f r) ≡ size r) → length (joined f m n) ≡ total size m n
  unfolding joined total
  joined_length size zero h = refl
  joined_length size (suc n) h =
      length-append (joined f m n) (cond (is_marked m n) (f n) []) ∙ ap₂ ◌+◌ (joined_length size n (λ r l. h r (omega arith))) (pick (is_marked m n))
    where
      pick : (b : Bool) → length (cond b (f n) []) ≡ cond b (size n) 0
      pick true = h n (omega arith)
      pick false = refl

module _ (size : ℕ → ℕ) (m : List ℕ) where
  pub total-none : total size m 0 ≡ 0
  unfolding total
  total-none = refl

  pub total-marked : (r : ℕ) → is_marked m r ≡ true → total size m (r + 1) ≡ total size m r + size r
  unfolding total
  total-marked r e = ap (total size m) (add-one r) ∙ ap (λ (b : Bool). total size m r + cond b (size r) 0) e

  pub total-unmarked : (r : ℕ) → is_marked m r ≡ false → total size m (r + 1) ≡ total size m r
  unfolding total
  total-unmarked r e =
      let z : total size m r + 0 ≡ total size m r = omega arith in
      ap (total size m) (add-one r) ∙ ap (λ (b : Bool). total size m r + cond b (size r) 0) e ∙ z

  pub total-rises : (r d : ℕ) → total size m r ≤ total size m (r + d)
  unfolding total
  total-rises r zero = let z : r + 0 ≡ r = omega arith in rw z (omega arith)
  total-rises r (suc d) =
      let z : r + suc d ≡ suc (r + d) = omega arith in
      let h = total-rises r d in
      rw z (omega arith)

  -- of n rows with at most k each
  pub total-bound : (k n : ℕ) → ((r : ℕ) → r < n → size r ≤ k) → total size m n ≤ n * k
  unfolding total
  total-bound k zero h = omega arith
  total-bound k (suc n) h = rw (suc-mul n k) (pick (is_marked m n) (total-bound k n (λ r l. h r (omega arith))))
    where
      pick : (b : Bool) → total size m n ≤ n * k → total size m n + cond b (size n) 0 ≤ n * k + k
      pick true l = omega (arith, h n (omega arith))
      pick false l = omega arith
