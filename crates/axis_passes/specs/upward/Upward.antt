-- A pass up: each row but the root adds to its parent's cell what a rule gives for its own mark and its own cell.
use Rattle.std.specs.Prelude.{List, ◌≡◌, ℕ, suc, ◌-◌, ◌<◌, length, get_or, set, replicate}
use Rattle.std.specs.Int.Bits.{bit_or}
use Rattle.std.proofs.Common.{sym, ap, subst, ◌∙◌, arith, length-set}
use Rattle.cells.specs.row_sets.Columns.{mark, is_marked}
use Rattle.selection_laws.specs.marks.Passes.{Upward, propagating, propagated_marks, AxisPass, Backward, turned}

-- the pass gives the rows on an axis: it begins as the axis does, and its rule gives, row by row, which rows mark their parents
pub record Raises (a : Upward) (Rule : ℕ → ℕ → ℕ → Type 0) (ps m out : List ℕ) : Type 0 where
  pub start : out ≡ propagated_marks a ps m (length ps)
  pub turn : (r x : ℕ) → 0 < r → r < length ps → Rule (get_or m r 0) (get_or (propagated_marks a ps m (suc r)) r 0) x → x ≡ mark (propagating a ps (is_marked m) r)

module _ (a : Upward) {Rule : ℕ → ℕ → ℕ → Type 0} {ps m was : List ℕ} (h : Raises a Rule ps m was) where
  pub raised-begun : AxisPass ps m was → Backward a ps m (length was) was
  raised-begun pass = record { pass = pass; within = omega (arith, pass.room); column = h.start ∙ ap (propagated_marks a ps m) (sym pass.room) }

  -- the turn that takes row r - 1
  pub raised-next : (r : ℕ) (out : List ℕ) (x : ℕ) → Backward a ps m r out → 1 < r → Rule (get_or m (r - 1) 0) (get_or out (r - 1) 0) x
      → Backward a ps m (r - 1) (set out (get_or ps (r - 1) 0) (bit_or (get_or out (get_or ps (r - 1) 0) 0) x))
  raised-next r out x w more rule =
      record {
        pass = record {
          before = w.pass.before;
          filled = w.pass.filled;
          marked = w.pass.marked;
          size = w.pass.size;
          room = length-set out p (bit_or (get_or out p 0) x) ∙ w.pass.room;
        };
        within = omega (arith, w.within);
        column =
            ap (λ (o : List ℕ). set o p (bit_or (get_or o p 0) x)) held
            ∙ turned ps m out w.pass (r - 1) (omega arith) inside a x (h.turn (r - 1) x (omega arith) inside (subst (λ (o : List ℕ). Rule (get_or m (r - 1) 0) (get_or o (r - 1) 0) x) held rule));
      }
    where
      p : ℕ
      p = get_or ps (r - 1) 0

      inside : r - 1 < length ps
      inside = omega (arith, w.within)

      same : r ≡ suc (r - 1)
      same = omega arith

      held : out ≡ propagated_marks a ps m (suc (r - 1))
      held = w.column ∙ ap (propagated_marks a ps m) same

-- a column that is filled with no mark, for as many rows as another has
pub cleared : {ps m was out : List ℕ} (a : Upward) → AxisPass ps m was → replicate (length ps) 0 ≡ propagated_marks a ps m (length ps) → out ≡ replicate (length was) 0
    → out ≡ propagated_marks a ps m (length ps)
cleared a h s e = e ∙ ap (λ (n : ℕ). replicate n 0) h.room ∙ s
