-- The rows of a table that have a position, written into other columns: parents' rows become their positions.
use Rattle.std.specs.Prelude.{Bool, true, false, cond, not, List, ◌≡◌, refl, ℕ, ◌+◌, ◌-◌, ◌<◌, ◌≤◌, eqb, length, get_or, set}
use Rattle.std.proofs.Math.Path.{sym}
use Rattle.std.proofs.Common.{ap, subst, ◌∙◌, arith, eq-eqb, ne_eqb, eqb-true}
use Rattle.std.proofs.lemmas.Bool.{eqb-false}
use Rattle.cells.specs.columns.Lent.{lent_columns, Same}
use Rattle.cells.specs.declared.columns.ColumnsMut.{ColumnsMut}
use Rattle.cells.specs.row_sets.Columns.{is_marked, marks, marks-length}
use Rattle.kept_rows.specs.Joined.{rank, total-marked, total-rises}
use Rattle.kept_rows.specs.Positions.{position_of, positions, positions-at, position-marked, position-unmarked, marked-position}
use Rattle.kept_rows.specs.cut_rows.Cells.{cells_before, Noted, noted-none, noted-unmarked, noted-marked, noted-length}
use Rattle.table_spec.specs.Columns.{Columns, columns}
use Rattle.text_laws.specs.Tests.{cond_yes, cond_no}

-- ---- definitions
-- the marked rows before r in columns: parents' rows become their positions among the marked rows
unfoldable pub kept_columns : List ℕ → Columns → ℕ → Columns
kept_columns m c r =
    record {
      numbers = cells_before (λ q. get_or c.numbers q 0) m r;
      names = cells_before (λ q. get_or c.names q 0) m r;
      parents = cells_before (λ q. rank m (get_or c.parents q 0)) m r;
      starts = cells_before (λ q. get_or c.starts q 0) m r;
      lengths = cells_before (λ q. get_or c.lengths q 0) m r;
      decoded = cells_before (λ q. get_or c.decoded q 0) m r;
    }

-- the rows that have a position
unfoldable pub marked_by : List ℕ → List ℕ
marked_by pos = marks (length pos) (λ r. not (eqb (get_or pos r 0) 0))

-- a row written at a cell of each column
abbrev pub stored : Columns → ℕ → ℕ → ℕ → ℕ → ℕ → ℕ → ℕ → Columns
stored x at number name parent start size decoded =
    columns (set x.numbers at number) (set x.names at name) (set x.parents at parent) (set x.starts at start) (set x.lengths at size) (set x.decoded at decoded)

-- row r of a table written at its position, if it has one
unfoldable pub row_added : List ℕ → Columns → ℕ → Columns → Columns
row_added pos c r x =
    cond (eqb (get_or pos r 0) 0) x
    (stored x (get_or pos r 0 - 1) (get_or c.numbers r 0) (get_or c.names r 0) (get_or pos (get_or c.parents r 0) 0 - 1) (get_or c.starts r 0) (get_or c.lengths r 0) (get_or c.decoded r 0))

-- ---- what the functions ask
-- columns of n cells each
pub record OfLength (x : Columns) (n : ℕ) : Type 0 where
  pub numbers : length x.numbers ≡ n
  pub names : length x.names ≡ n
  pub parents : length x.parents ≡ n
  pub starts : length x.starts ≡ n
  pub lengths : length x.lengths ≡ n
  pub decoded : length x.decoded ≡ n

-- positions of the rows of a table: each parent of a row that has one has one, too
pub record Numbered (pos : List ℕ) (c : Columns) : Type 0 where
  pub sizes : OfLength c (length pos)
  pub numbered : pos ≡ positions (marked_by pos)
  pub above : (r : ℕ) → r < length pos → is_marked (marked_by pos) r ≡ true → (get_or c.parents r 0 < length pos) × (is_marked (marked_by pos) (get_or c.parents r 0) ≡ true)

-- one row: it has a cell, and so does its parent's row
pub record RowPass (pos : List ℕ) (c x : Columns) (r : ℕ) : Type 0 where
  pub inside : r < length pos
  pub sizes : OfLength c (length pos)
  pub equal : OfLength x (length x.numbers)
  pub low : get_or pos r 0 ≤ length x.numbers
  pub above : (get_or pos r 0 ≡ 0 → ⊥) → (get_or c.parents r 0 < length pos) × (get_or pos (get_or c.parents r 0) 0 ≡ 0 → ⊥)

-- lent columns that have room for n rows
pub record Room (n : ℕ) (x : Columns) : Type 0 where
  pub sizes : OfLength x (length x.numbers)
  pub enough : n ≤ length x.numbers

pub record CutPass (pos : List ℕ) (c x : Columns) : Type 0 where
  pub rows : Numbered pos c
  pub room : Room (rank (marked_by pos) (length pos)) x

-- ---- a row
module _ (pos : List ℕ) (c x : Columns) (r : ℕ) where
  pub row_cut : get_or pos r 0 ≡ 0 → x ≡ row_added pos c r x
  unfolding row_added
  row_cut e = sym (cond_yes x _ (eq-eqb (get_or pos r 0) 0 e))

  pub row_kept : (get_or pos r 0 ≡ 0 → ⊥)
      → stored x (get_or pos r 0 - 1) (get_or c.numbers r 0) (get_or c.names r 0) (get_or pos (get_or c.parents r 0) 0 - 1) (get_or c.starts r 0) (get_or c.lengths r 0) (get_or c.decoded r 0)
      ≡ row_added pos c r x
  unfolding row_added
  row_kept d = sym (cond_no x _ (ne_eqb (get_or pos r 0) 0 d))

-- ---- the rows before r behind
pub record RowsNoted (m : List ℕ) (c o : Columns) (r : ℕ) (x : Columns) : Type 0 where
  pub numbers : Noted (λ q. get_or c.numbers q 0) m o.numbers r x.numbers
  pub names : Noted (λ q. get_or c.names q 0) m o.names r x.names
  pub parents : Noted (λ q. rank m (get_or c.parents q 0)) m o.parents r x.parents
  pub starts : Noted (λ q. get_or c.starts q 0) m o.starts r x.starts
  pub lengths : Noted (λ q. get_or c.lengths q 0) m o.lengths r x.lengths
  pub decoded : Noted (λ q. get_or c.decoded q 0) m o.decoded r x.decoded

-- all rows, in lent columns
pub record RowsWritten (pos : List ℕ) (c : Columns) (old new : ColumnsMut) : Type 0 where
  pub same : Same old new
  pub rows : RowsNoted (marked_by pos) c (lent_columns old) (length pos) (lent_columns new)

pub rows_none : (m : List ℕ) (c o : Columns) → RowsNoted m c o 0 o
rows_none m c o =
    record {
      numbers = noted-none _ _ _;
      names = noted-none _ _ _;
      parents = noted-none _ _ _;
      starts = noted-none _ _ _;
      lengths = noted-none _ _ _;
      decoded = noted-none _ _ _;
    }

pub rows_all : (m : List ℕ) (c o : Columns) (n r : ℕ) (x : Columns) → r ≡ n → RowsNoted m c o r x → RowsNoted m c o n x
rows_all m c o n r x e w = subst (λ (k : ℕ). RowsNoted m c o k x) e w

pub rows-sizes : (m : List ℕ) (c o : Columns) (r : ℕ) (x : Columns) → RowsNoted m c o r x → OfLength o (length o.numbers) → OfLength x (length o.numbers)
rows-sizes m c o r x w h =
    record {
      numbers = noted-length _ _ _ r x.numbers w.numbers;
      names = noted-length _ _ _ r x.names w.names ∙ h.names;
      parents = noted-length _ _ _ r x.parents w.parents ∙ h.parents;
      starts = noted-length _ _ _ r x.starts w.starts ∙ h.starts;
      lengths = noted-length _ _ _ r x.lengths w.lengths ∙ h.lengths;
      decoded = noted-length _ _ _ r x.decoded w.decoded ∙ h.decoded;
    }

same_length : (x : Columns) (n : ℕ) → OfLength x n → OfLength x (length x.numbers)
same_length x n h = subst (OfLength x) (sym h.numbers) h

marked-size : (pos : List ℕ) → length (marked_by pos) ≡ length pos
unfolding marked_by
marked-size pos = marks-length (length pos) (λ r. not (eqb (get_or pos r 0) 0))

module _ (pos : List ℕ) (c o : Columns) (h : CutPass pos c o) where
  position : (r : ℕ) → r < length pos → get_or pos r 0 ≡ position_of (marked_by pos) r
  position r l = ap (λ (p : List ℕ). get_or p r 0) h.rows.numbered ∙ positions-at (marked_by pos) r (omega (arith, marked-size pos))

  module _ (r : ℕ) (x : Columns) (w : RowsNoted (marked_by pos) c o r x) (l : r < length pos) where
    marked : (get_or pos r 0 ≡ 0 → ⊥) → is_marked (marked_by pos) r ≡ true
    marked d = position-marked (marked_by pos) r (λ e. d (position r l ∙ e))

    at_position : (get_or pos r 0 ≡ 0 → ⊥) → get_or pos r 0 - 1 ≡ rank (marked_by pos) r
    at_position d = omega (arith, position r l ∙ marked-position (marked_by pos) r (marked d))

    at-parent : (get_or pos r 0 ≡ 0 → ⊥) → get_or pos (get_or c.parents r 0) 0 ≡ rank (marked_by pos) (get_or c.parents r 0) + 1
    at-parent d =
        let a = h.rows.above r l (marked d) in
        position (get_or c.parents r 0) a.0 ∙ marked-position (marked_by pos) (get_or c.parents r 0) a.1

    pub row-pass : RowPass pos c x r
    row-pass =
        record {
          inside = l;
          sizes = h.rows.sizes;
          equal = same_length x _ (rows-sizes (marked_by pos) c o r x w h.room.sizes);
          low = by (eqb (get_or pos r 0) 0) refl;
          above = λ d. ((h.rows.above r l (marked d)).0, λ e. omega (arith, at-parent d));
        }
      where
        long : length x.numbers ≡ length o.numbers
        long = (rows-sizes (marked_by pos) c o r x w h.room.sizes).numbers

        by : (b : Bool) → eqb (get_or pos r 0) 0 ≡ b → get_or pos r 0 ≤ length x.numbers
        by true e = omega (arith, eqb-true (get_or pos r 0) 0 e)
        by false e =
            let d = eqb-false (get_or pos r 0) 0 e in
            let z : r + 1 + (length pos - (r + 1)) ≡ length pos = omega arith in
            let t : rank (marked_by pos) (r + 1) ≤ rank (marked_by pos) (length pos) =
            subst (λ (k : ℕ). rank (marked_by pos) (r + 1) ≤ rank (marked_by pos) k) z (total-rises (λ q. 1) (marked_by pos) (r + 1) (length pos - (r + 1))) in
            omega (arith, long, at_position d, total-marked (λ q. 1) (marked_by pos) r (marked d), h.room.enough)

    pub row_next : (y : Columns) → y ≡ row_added pos c r x → RowsNoted (marked_by pos) c o (r + 1) y
    row_next y e = by (eqb (get_or pos r 0) 0) refl
      where
        m : List ℕ
        m = marked_by pos

        by : (b : Bool) → eqb (get_or pos r 0) 0 ≡ b → RowsNoted (marked_by pos) c o (r + 1) y
        by true q =
            let z = eqb-true (get_or pos r 0) 0 q in
            let u : is_marked (marked_by pos) r ≡ false = position-unmarked (marked_by pos) r (sym (position r l) ∙ z) in
            rw (e ∙ sym (row_cut pos c x r z))
            (record {
              numbers = noted-unmarked _ _ _ r x.numbers u w.numbers;
              names = noted-unmarked _ _ _ r x.names u w.names;
              parents = noted-unmarked _ _ _ r x.parents u w.parents;
              starts = noted-unmarked _ _ _ r x.starts u w.starts;
              lengths = noted-unmarked _ _ _ r x.lengths u w.lengths;
              decoded = noted-unmarked _ _ _ r x.decoded u w.decoded;
            })
        by false q =
            let d = eqb-false (get_or pos r 0) 0 q in
            let n = at_position d in
            rw (e ∙ sym (row_kept pos c x r d))
            (record {
              numbers = noted-marked _ _ _ r x.numbers (marked d) w.numbers _ _ n refl;
              names = noted-marked _ _ _ r x.names (marked d) w.names _ _ n refl;
              parents = noted-marked _ _ _ r x.parents (marked d) w.parents _ _ n (omega (arith, at-parent d));
              starts = noted-marked _ _ _ r x.starts (marked d) w.starts _ _ n refl;
              lengths = noted-marked _ _ _ r x.lengths (marked d) w.lengths _ _ n refl;
              decoded = noted-marked _ _ _ r x.decoded (marked d) w.decoded _ _ n refl;
            })
