-- Rows as cells hold them, exact for the rows of a table.
use Rattle.std.specs.Prelude.{ℕ, ◌+◌, ◌-◌, ◌%◌, Option}
use Rattle.cells.specs.declared.columns.RowCells.{RowCells}
use Rattle.text.specs.lookup.Lookup.{found}
use Rattle.text_spec.specs.Lists.{value_or}

abbrev pub element_cells : Option ℕ → ℕ → RowCells
element_cells e parent = record { name = value_or 32 (found e); parent = parent % 65536; start = 0; size = 0; decoded = 0 }

abbrev pub text_cells : ℕ → ℕ → ℕ → ℕ → ℕ → RowCells
text_cells e parent start size saved = record { name = e % 32 + 32; parent = parent % 65536; start = start; size = size % 65536; decoded = (size - saved) % 65536 }
