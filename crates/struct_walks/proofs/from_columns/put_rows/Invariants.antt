-- `put_rows` fills the structs one after another, each from the cell of its row.
use Rattle.std.proofs.Common.{length}
use Rattle.struct_walks.proofs.from_columns.Filled.{Filled}
use Rattle.struct_walks.proofs.from_columns.put_rows.Given as goal

abbrev pub invariant-loop-i : goal.invariant-loop-i
invariant-loop-i l = Filled l.fn.columns (length l.initial.rows) l.i l.rows
