-- The cells of the kept rows in a lent column: one after the other, and then zeros.
use Rattle.std.specs.Prelude.{true, false, ◌≡◌, refl, ℕ, ◌+◌, ◌≤◌, get_or, drop}
use mathlib.Core.List.{List, [], ◌∷◌, ◌++◌}
use Rattle.std.proofs.Math.Path.{sym, ap}
use Rattle.std.proofs.Common.{subst, ◌∙◌, arith}
use Rattle.std.proofs.Math.ListN.{length, set, get_or-append}
use Rattle.std.proofs.lemmas.List.Edits.{sets, sets-eq}
use Rattle.std.proofs.Math.Seq.{length-sets}
use Rattle.cells.specs.row_sets.Columns.{is_marked}
use Rattle.kept_rows.specs.Joined.{joined, rank, joined-none, joined-marked, joined-unmarked, joined_length}
pub use Rattle.cells.specs.lent.Cells.{all-cleared}
use Rattle.cells.specs.lent.Appended.{appended-cleared}
use Rattle.cells.specs.lent.Cells.{Cleared}
use Rattle.text_laws.specs.Cells.{sets-append}
use Rattle.text_spec.specs.Cells.{padded}

-- what the marked rows before r have in a column
unfoldable pub cells_before : (ℕ → ℕ) → List ℕ → ℕ → List ℕ
cells_before f m r = joined (λ q. f q ∷ []) m r

pub cells-length : (f : ℕ → ℕ) (m : List ℕ) (r : ℕ) → length (cells_before f m r) ≡ rank m r
unfolding cells_before
cells-length f m r = joined_length (λ q. f q ∷ []) m (λ q. 1) r (λ q l. refl)

-- ---- numbers noted from the first cell on, and the cells past them cleared
pub sets-cleared : (o xs out : List ℕ) (n : ℕ) → n ≡ length xs → n ≤ length o → Cleared (sets o 0 xs) n out → out ≡ padded (length o) xs
sets-cleared o xs out n e l w =
    appended-cleared o (sets o 0 xs) out xs n
    (record {
      long = length-sets o 0 xs;
      count = omega (arith, e);
      kept = λ k b. absurd (omega arith);
      cells = λ k a b. (let z : 0 + k ≡ k = omega arith in ap (λ (i : ℕ). get_or (sets o 0 xs) i 0) z ∙ ap (λ (c : List ℕ). get_or c k 0) front ∙ get_or-append xs _ 0 k a);
    }) w
  where
    front : sets o 0 xs ≡ xs ++ drop (0 + length xs) o
    front = sets-eq xs o 0 (omega (arith, e))

-- ---- a column, with the rows before r behind
module _ (f : ℕ → ℕ) (m o : List ℕ) where
  abbrev pub Noted : ℕ → List ℕ → Type 0
  Noted r out = out ≡ sets o 0 (cells_before f m r)

  pub noted-none : Noted 0 o
  unfolding cells_before
  noted-none = sym (ap (sets o 0) (joined-none (λ q. f q ∷ []) m))

  pub noted-unmarked : (r : ℕ) (out : List ℕ) → is_marked m r ≡ false → Noted r out → Noted (r + 1) out
  unfolding cells_before
  noted-unmarked r out e w = w ∙ ap (sets o 0) (sym (joined-unmarked (λ q. f q ∷ []) m r e))

  pub noted-marked : (r : ℕ) (out : List ℕ) → is_marked m r ≡ true → Noted r out → (n x : ℕ) → n ≡ rank m r → x ≡ f r → Noted (r + 1) (set out n x)
  unfolding cells_before
  noted-marked r out e w n x d y =
      let z : 0 + length (cells_before f m r) ≡ n = omega (arith, cells-length f m r) in
      ap (λ (c : List ℕ). set c n x) w ∙ ap (set (sets o 0 (cells_before f m r)) n) y
      ∙ sym (ap (sets o 0) (joined-marked (λ q. f q ∷ []) m r e) ∙ sets-append o 0 (cells_before f m r) (f r ∷ [])
      ∙ ap (λ (k : ℕ). set (sets o 0 (cells_before f m r)) k (f r)) z)

  pub noted-length : (r : ℕ) (out : List ℕ) → Noted r out → length out ≡ length o
  noted-length r out w = ap length w ∙ length-sets o 0 (cells_before f m r)

  pub noted-cleared : (r : ℕ) (out end : List ℕ) (n : ℕ) → Noted r out → n ≡ rank m r → n ≤ length o → Cleared out n end → end ≡ padded (length o) (cells_before f m r)
  noted-cleared r out end n w e l c =
      sets-cleared o (cells_before f m r) end n (e ∙ sym (cells-length f m r)) l (subst (λ (u : List ℕ). Cleared u n end) w c)
