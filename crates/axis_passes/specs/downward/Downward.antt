-- A pass down: each row but the root gets what a rule gives for its own mark, its parent's mark and what its parent got.
use Rattle.std.specs.Prelude.{List, ◌≡◌, ℕ, ◌<◌, length, get_or}
use Rattle.std.proofs.Common.{sym, subst, ◌∙◌, arith, ext_get_or}
use Rattle.cells.specs.row_sets.Ancestors.{by-parents}
use Rattle.path_spec.specs.Paths.{Axis}
use Rattle.selection_laws.specs.marks.Parents.{image_marks}
use Rattle.selection_laws.specs.marks.Passes.{AxisPass, image-length}

pub record PassedDown (Rule : ℕ → ℕ → ℕ → ℕ → Type 0) (ps m : List ℕ) (first : ℕ) (out : List ℕ) : Type 0 where
  pub size : length out ≡ length ps
  pub root : get_or out 0 0 ≡ first
  pub rows : (r : ℕ) → r < length ps → 0 < r → Rule (get_or m r 0) (get_or m (get_or ps r 0) 0) (get_or out (get_or ps r 0) 0) (get_or out r 0)

-- it gives the rows on an axis where the rule gives, row by row, what the axis has
module _ {Rule : ℕ → ℕ → ℕ → ℕ → Type 0} {ps m was out : List ℕ} {first : ℕ} (h : AxisPass ps m was) (w : PassedDown Rule ps m first out) where
  pub down-image : (a : Axis) → first ≡ get_or (image_marks a ps m) 0 0
      → ((r x : ℕ) → 0 < r → r < length ps → Rule (get_or m r 0) (get_or m (get_or ps r 0) 0) (get_or (image_marks a ps m) (get_or ps r 0) 0) x → x ≡ get_or (image_marks a ps m) r 0)
      → out ≡ image_marks a ps m
  down-image a e t =
      ext_get_or 0 out (image_marks a ps m) (w.size ∙ sym (image-length a ps m))
      (λ r l. by-parents ps h.before (λ k. get_or out k 0 ≡ get_or (image_marks a ps m) k 0) (w.root ∙ e) step r (omega (arith, w.size)))
    where
      step : (r : ℕ) → 0 < r → r < length ps → get_or out (get_or ps r 0) 0 ≡ get_or (image_marks a ps m) (get_or ps r 0) 0 → get_or out r 0 ≡ get_or (image_marks a ps m) r 0
      step r p l d = t r (get_or out r 0) p l (subst (λ (y : ℕ). Rule (get_or m r 0) (get_or m (get_or ps r 0) 0) y (get_or out r 0)) d (w.rows r l p))
