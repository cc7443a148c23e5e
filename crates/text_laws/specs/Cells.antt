-- Laws of lent cells: an answer and then zeros; numbers noted one after the other.
use Rattle.std.specs.Prelude.{List, [], ◌∷◌, ◌++◌, ◌≡◌, refl, ℕ, zero, suc, ◌+◌, ◌-◌, ◌≤◌, length, take, drop, replicate, set}
use Rattle.std.proofs.Common.{sym, ap, ◌∙◌, add-zero, add-suc, suc-add, arith}
use Rattle.std.proofs.lemmas.List.Edits.{sets}
use Rattle.text_spec.specs.Cells.{padded, InCells}

-- the zeros that are left
pub drop-replicate : (k n a : ℕ) → drop k (replicate n a) ≡ replicate (n - k) a
drop-replicate zero n a = let e : n ≡ n - 0 = omega arith in ap (λ (m : ℕ). replicate m a) e
drop-replicate (suc k) zero a = let e : 0 ≡ 0 - suc k = omega arith in ap (λ (m : ℕ). replicate m a) e
drop-replicate (suc k) (suc n) a = drop-replicate k n a ∙ (let e : n - k ≡ suc n - suc k = omega arith in ap (λ (m : ℕ). replicate m a) e)

pub padded-length : (n : ℕ) (xs : List ℕ) → length (padded n xs) ≡ n
padded-length zero xs = refl
padded-length (suc n) [] = ap suc (padded-length n [])
padded-length (suc n) (x ∷ xs) = ap suc (padded-length n xs)

pub padded-zeros : (n : ℕ) → padded n [] ≡ replicate n 0
padded-zeros zero = refl
padded-zeros (suc n) = ap (λ (l : List ℕ). 0 ∷ l) (padded-zeros n)

-- an answer that fits stands first, and zeros fill the rest
pub padded-content : (n : ℕ) (xs : List ℕ) → length xs ≤ n → padded n xs ≡ xs ++ replicate (n - length xs) 0
padded-content n [] h =
    let e : n ≡ n - 0 = omega arith in
    padded-zeros n ∙ ap (λ (k : ℕ). replicate k 0) e
padded-content zero (x ∷ xs) h = absurd (omega arith)
padded-content (suc n) (x ∷ xs) h =
    let e : n - length xs ≡ suc n - suc (length xs) = omega arith in
    ap (λ (l : List ℕ). x ∷ l) (padded-content n xs (omega arith) ∙ ap (λ (k : ℕ). xs ++ replicate k 0) e)

pub padded-in-cells : (n : ℕ) (xs : List ℕ) → length xs ≤ n → InCells n xs (padded n xs)
padded-in-cells n xs h = record { room = h; content = padded-content n xs h }

pub padded-take : (n : ℕ) (xs : List ℕ) → length xs ≤ n → take (length xs) (padded n xs) ≡ xs
padded-take n [] h = refl
padded-take zero (x ∷ xs) h = absurd (omega arith)
padded-take (suc n) (x ∷ xs) h = ap (λ (l : List ℕ). x ∷ l) (padded-take n xs (omega arith))

-- Two runs of numbers noted at once are the one, and then the other behind it.
pub sets-append : (o : List ℕ) (n : ℕ) (xs ys : List ℕ) → sets o n (xs ++ ys) ≡ sets (sets o n xs) (n + length xs) ys
sets-append o n [] ys = ap (λ (k : ℕ). sets o k ys) (sym (add-zero n))
sets-append o n (x ∷ xs) ys =
    sets-append (set o n x) (suc n) xs ys ∙ ap (λ (k : ℕ). sets (sets (set o n x) (suc n) xs) k ys) (suc-add n (length xs) ∙ sym (add-suc n (length xs)))
