use Rattle.cells.specs.columns.Lent.{read_columns}
use Rattle.extract_writer.specs.rows.Rows.{field_at}
use Rattle.extract_writer.specs.writers.Writers.{Puts}
use Rattle.kept_rows.specs.Joined.{joined}
use Rattle.extract_writer.proofs.writers.Writer.put_rows.Given as goal

abbrev pub invariant-loop-r : goal.invariant-loop-r
invariant-loop-r l = Puts l.initial.self (joined (field_at l.text (read_columns l.table)) l.marks l.r) l.self
