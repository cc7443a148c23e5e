-- Rows as structs, and as columns inside the library.
use Rattle.std.specs.Prelude.{Result, List, ◌≡◌, ℕ, ◌<◌, min, length, get_or, replicate}
use Rattle.cells.specs.verdicts.Verdicts.{verdict}
use Rattle.library_spec.specs.Calls.{structs_after}
use Rattle.row_structs.specs.declared.Row.{Row}
use Rattle.row_structs.specs.declared.RowColumns.{RowColumns}
use Rattle.table_spec.specs.Columns.{Columns, columns, cells_at, cells_from}
use Rattle.table_spec.specs.Rows.{Row as TableRow, Cells}
use Rattle.text.specs.declared.refusals.Refusal.{Refusal}
use Rattle.text_spec.specs.Limits.{max_nodes}
use Rattle.text_spec.specs.Refusals.{Outcome}

-- a struct's numbers
abbrev pub cells_in : Row → Cells
cells_in r = record { number = r.number; name = r.name; parent = r.parent; start = r.start; size = r.size; decoded = r.decoded }

-- what stands past the end of a list of structs, and past that of a list of their numbers
abbrev pub empty_row : Row
empty_row = record { number = 0; name = 0; parent = 0; start = 0; size = 0; decoded = 0 }

abbrev pub empty_cells : Cells
empty_cells = cells_in empty_row

abbrev pub columns_in : RowColumns → Columns
columns_in c = record { numbers = c.numbers; names = c.names; parents = c.parents; starts = c.starts; lengths = c.lengths; decoded = c.decoded }

-- how many cells a column has
abbrev pub cell_count : ℕ
cell_count = 65536

-- a column of zeros, and the columns of no row
abbrev pub zeros : ℕ → List ℕ
zeros n = replicate n 0

abbrev pub empty_columns : Columns
empty_columns = columns (zeros cell_count) (zeros cell_count) (zeros cell_count) (zeros cell_count) (zeros cell_count) (zeros cell_count)

-- the cell of a row: the last one for all rows past those that a table can have
abbrev pub cell_of : ℕ → ℕ
cell_of row = min row max_nodes

-- the first rows, as many as a table can have, stand in the columns
abbrev pub Laid : List Cells → Columns → Type 0
Laid rows c = (k : ℕ) → k < length rows → k < max_nodes → cells_at c k ≡ get_or rows k empty_cells

-- a table answered for so many structs: how many rows, the rows and then zeros, and nothing in the last cell
pub record AnsweredFor (o : Outcome (List TableRow)) (n : ℕ) (r : Result ℕ Refusal) (c : Columns) : Type 0 where
  pub answer : r ≡ verdict o
  pub cells : cells_from c 0 n ≡ structs_after n o
  pub past : cells_at c max_nodes ≡ empty_cells
