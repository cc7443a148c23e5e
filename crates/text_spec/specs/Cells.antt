-- Answers in lent cells: the answer and then zeros, or all zeros on refusal.
use Rattle.std.specs.Prelude.{Bool, List, [], ◌∷◌, ◌++◌, ◌≡◌, ℕ, zero, suc, ◌-◌, ◌≤◌, ltb, length, replicate}

-- "On success the cells past the answer are 0": an answer in so many cells. Where there is no answer every cell is 0 (demand 1).
abbrev pub padded : ℕ → List ℕ → List ℕ
padded zero xs = []
padded (suc n) [] = 0 ∷ padded n []
padded (suc n) (x ∷ xs) = x ∷ padded n xs

-- the same as a relation
pub record InCells (size : ℕ) (answer cells : List ℕ) : Type 0 where
  pub room : length answer ≤ size
  pub content : cells ≡ answer ++ replicate (size - length answer) 0

-- 18. "A lent output has fewer cells than the answer takes."
abbrev pub too_small : {A : Type 0} → ℕ → List A → Bool
too_small size answer = ltb size (length answer)
