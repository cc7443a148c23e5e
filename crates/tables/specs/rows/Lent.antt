-- Lent columns that have a cell for each row, and one row of them.
use Rattle.std.specs.Prelude.{Bool, List, ◌≡◌, ℕ, ◌+◌, ◌-◌, ◌<◌, ◌≤◌, length, get_or}
use Rattle.std.proofs.Common.{arith}
use Rattle.cells.specs.declared.columns.RowCells.{RowCells}
use Rattle.table_laws.specs.passes.Passes.{later_cells, code_at, parent_at}
use Rattle.table_spec.specs.Columns.{Columns, cells_at}
use Rattle.table_spec.specs.Rows.{Cells}
use Rattle.text_spec.specs.Limits.{max_declarations}

-- each column has a cell for each of so many rows
pub record Lent (c : Columns) (count : ℕ) : Type 0 where
  pub numbered : count ≤ length c.numbers
  pub named : count ≤ length c.names
  pub parented : count ≤ length c.parents
  pub started : count ≤ length c.starts
  pub sized : count ≤ length c.lengths
  pub measured : count ≤ length c.decoded

-- so has each column that tells of texts
pub record TextsLent (c : Columns) (count : ℕ) : Type 0 where
  pub named : count ≤ length c.names
  pub started : count ≤ length c.starts
  pub sized : count ≤ length c.lengths
  pub measured : count ≤ length c.decoded

pub lent-texts : (c : Columns) (count : ℕ) → Lent c count → TextsLent c count
lent-texts c count l = record { named = l.named; started = l.started; sized = l.sized; measured = l.measured }

-- and for the first rows
pub lent-row : (c : Columns) (count row : ℕ) → TextsLent c count → row < count → TextsLent c (row + 1)
lent-row c count row l h =
    record {
      named = omega (arith, l.named);
      started = omega (arith, l.started);
      sized = omega (arith, l.sized);
      measured = omega (arith, l.measured);
    }

-- there is a row 0, an element without a parent
pub record RootAt (c : Columns) (count : ℕ) : Type 0 where
  pub some : 0 < count
  pub name : code_at c 0 ≡ 0
  pub parent : parent_at c 0 ≡ 0

-- the columns have a later row, and its parent, which is an element
pub record RowLent (c : Columns) (row parent : ℕ) : Type 0 where
  pub later : 0 < row
  pub lent : Lent c (row + 1)
  pub parented : parent < length c.names
  pub is_element : code_at c parent < max_declarations

-- a row by its number and its other cells
abbrev pub row_in : ℕ → RowCells → Cells
row_in number x = record { number = number; name = x.name; parent = x.parent; start = x.start; size = x.size; decoded = x.decoded }

-- the row fits under its parent, whose depth this is
abbrev pub row_fits : Columns → List ℕ → ℕ → ℕ → ℕ → Bool
row_fits c words row parent depth = later_cells (cells_at c (row - 1)) (get_or words (code_at c parent) 0) depth (cells_at c row)
