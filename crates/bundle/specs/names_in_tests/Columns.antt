-- A column that is filled from cells, one after the other.
use Rattle.std.specs.Prelude.{List, [], ◌∷◌, ◌++◌, map, ◌≡◌, ℕ, ◌+◌, ◌≤◌, ◌<◌, length, take, drop, set, get_or}
use Rattle.std.proofs.lemmas.List.{map-append, length-map}
use Rattle.std.proofs.Common.{append-nil, sym, ap, ◌∙◌, add-one, arith, take-suc, length-take-le}
use Rattle.std.proofs.lemmas.List.Edits.{sets, sets-eq}
use Rattle.std.proofs.Math.Seq.{take-length, drop-length}
use Rattle.text_laws.specs.Cells.{sets-append}

module _ (f : ℕ → ℕ) (cells : List ℕ) (i : ℕ) (h : i < length cells) where
  pub map_next : map f (take (i + 1) cells) ≡ map f (take i cells) ++ (f (get_or cells i 0) ∷ [])
  map_next = ap (λ (n : ℕ). map f (take n cells)) (add-one i) ∙ ap (map f) (take-suc cells i 0 h) ∙ map-append f (take i cells) (get_or cells i 0 ∷ [])

  pub column-next : (column column' : List ℕ) (at : ℕ) → column' ≡ sets column at (map f (take i cells))
      → set column' (at + i) (f (get_or cells i 0)) ≡ sets column at (map f (take (i + 1) cells))
  column-next column column' at e =
      let l : i ≡ length (map f (take i cells)) = sym (length-map (take i cells) f ∙ length-take-le i cells (omega arith)) in
      ap (λ (c : List ℕ). set c (at + i) (f (get_or cells i 0))) e
      ∙ ap (λ (n : ℕ). set (sets column at (map f (take i cells))) (at + n) (f (get_or cells i 0))) l
      ∙ sym (sets-append column at (map f (take i cells)) (f (get_or cells i 0) ∷ [])) ∙ ap (sets column at) (sym map_next)

  -- from the first cell on
  pub column-next-first : (column column' : List ℕ) → column' ≡ sets column 0 (map f (take i cells)) → set column' i (f (get_or cells i 0)) ≡ sets column 0 (map f (take (i + 1) cells))
  column-next-first column column' e =
      let z : i ≡ 0 + i = omega arith in
      ap (λ (n : ℕ). set column' n (f (get_or cells i 0))) z ∙ column-next column column' 0 e

-- a whole column
pub column-whole : (f : ℕ → ℕ) (cells : List ℕ) (i : ℕ) (column column' : List ℕ) → i ≤ length cells → length cells ≤ i → length column ≡ length cells
    → column' ≡ sets column 0 (map f (take i cells)) → column' ≡ map f cells
column-whole f cells i column column' h k l e =
    let a : i ≡ length cells = omega arith in
    let b : 0 + length (map f cells) ≡ length column = omega (arith, length-map cells f) in
    e ∙ ap (λ (c : List ℕ). sets column 0 (map f c)) (ap (λ (n : ℕ). take n cells) a ∙ take-length cells) ∙ sets-eq (map f cells) column 0 (omega arith)
    ∙ ap (λ (c : List ℕ). map f cells ++ c) (ap (λ (n : ℕ). drop n column) b ∙ drop-length column) ∙ append-nil (map f cells)
