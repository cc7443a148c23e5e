-- `columns_of` lays the rows in the columns one after another.
use Rattle.struct_walks.proofs.to_columns.Laying.{Sized, LaidTo}
use Rattle.struct_walks.proofs.to_columns.columns_of.Given as goal

abbrev pub invariant-loop-i : goal.invariant-loop-i
invariant-loop-i l = Sized l.columns × LaidTo l.rows l.i l.columns
