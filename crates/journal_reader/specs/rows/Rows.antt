-- Columns that hold the rows built so far hold them after a step, too.
use Rattle.std.specs.Prelude.{Bool, true, false, ◌≡◌, ℕ, ◌%◌, length, Option, Some, None}
use mathlib.Core.List.{List, reverse, reverse-cons}
use Rattle.std.proofs.Common.{true≢false, sym, ap, subst, ◌∙◌}
use Rattle.std.proofs.lemmas.List.{length-reverse}
use Rattle.cells.specs.columns.ColumnLaws.{columns-more, equal-more}
use Rattle.cells.specs.columns.Columns.{EqualColumns, with_row, cells}
use Rattle.cells.specs.declared.columns.RowCells.{RowCells}
use Rattle.journal_builder.specs.build_state.State.{Rows, kept, begun-row}
use Rattle.journal_builder.specs.declared.build_state.BuildStep.{BuildStep}
use Rattle.table_spec.specs.Columns.{Columns, Sizes, columns_of}
use Rattle.table_spec.specs.Rows.{Row, Cells, cells_of}

-- what adding a row leaves in columns of equal length
pub record RowAdded (c : Columns) (count : ℕ) (x : BuildStep) (d : Columns) : Type 0 where
  pub equal : EqualColumns d
  pub holds : (z : Sizes) (before after : List Row) → count ≡ length before → Rows count x before after → c ≡ columns_of z (reverse before)
      → d ≡ columns_of z (reverse after)

-- no row is not a row
abbrev has_row : Option RowCells → Bool
has_row (Some y) = true
has_row None = false

no-row : {y : RowCells} → None ≡ Some y → ⊥
no-row e = true≢false (ap has_row (sym e))

same-row : {x y : RowCells} → Some x ≡ Some y → x ≡ y
same-row e = cc

-- no node has begun
pub row_kept : {c : Columns} {count : ℕ} {x : BuildStep} → EqualColumns c → x.row ≡ None → RowAdded c count x c
row_kept {c} {count} {x} q e = record { equal = q; holds = λ z before after l r h. pick z r h }
  where
    pick : (z : Sizes) {before after : List Row} → Rows count x before after → c ≡ columns_of z (reverse before) → c ≡ columns_of z (reverse after)
    pick z (kept k) h = h
    pick z (begun-row k p) h = absurd (no-row (sym e ∙ k))

-- one has begun
pub row-begun : {c d : Columns} {count : ℕ} {x : BuildStep} (row : RowCells) → EqualColumns c → x.row ≡ Some row → d ≡ with_row c count (cells count row) → RowAdded c count x d
row-begun {c} {d} {count} {x} y q n e =
    record {
      equal = subst EqualColumns (sym e) (equal-more c count (count % 65536) y.name y.parent y.start y.size y.decoded q);
      holds = λ z before after l r h. e ∙ pick z r l h;
    }
  where
    pick : (z : Sizes) {before after : List Row} → Rows count x before after → count ≡ length before → c ≡ columns_of z (reverse before)
        → with_row c count (cells count y) ≡ columns_of z (reverse after)
    pick z (kept k) l h = absurd (no-row (sym k ∙ n))
    pick z {before} (begun-row {row = row} k p) l h =
        ap (λ (v : RowCells). with_row c count (cells count v)) (same-row (sym n ∙ k))
        ∙ ap (λ (y : Cells). with_row c count y) p
        ∙ ap (λ (w : Columns). with_row w count (cells_of row)) h
        ∙ ap (λ (k : ℕ). with_row (columns_of z (reverse before)) k (cells_of row)) (l ∙ sym (length-reverse before))
        ∙ columns-more z (reverse before) row
        ∙ ap (columns_of z) (sym (reverse-cons row before))
