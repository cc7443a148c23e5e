-- One row put into lent columns.
use Rattle.std.specs.Prelude.{cond, List, ◌≡◌, ℕ, ◌%◌, ltb, length, set}
use Rattle.cells.specs.declared.columns.RowCells.{RowCells}
use Rattle.table_spec.specs.Columns.{Columns, columns}
use Rattle.table_spec.specs.Rows.{Cells}

-- all columns have the same length
pub record EqualColumns (c : Columns) : Type 0 where
  pub of-names : length c.names ≡ length c.numbers
  pub of-parents : length c.parents ≡ length c.numbers
  pub of-starts : length c.starts ≡ length c.numbers
  pub of-lengths : length c.lengths ≡ length c.numbers
  pub of-decoded : length c.decoded ≡ length c.numbers

-- a cell stored, if the column has it
abbrev pub put : List ℕ → ℕ → ℕ → List ℕ
put column r x = cond (ltb r (length column)) (set column r x) column

abbrev pub with_row : Columns → ℕ → Cells → Columns
with_row c r x =
    columns (put c.numbers r x.number) (put c.names r x.name) (put c.parents r x.parent) (put c.starts r x.start) (put c.lengths r x.size) (put c.decoded r x.decoded)

-- the cells of the row r; its number is exact where it is one of a table's
abbrev pub cells : ℕ → RowCells → Cells
cells r x = record { number = r % 65536; name = x.name; parent = x.parent; start = x.start; size = x.size; decoded = x.decoded }
