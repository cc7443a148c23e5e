use Rattle.cells.specs.row_sets.Columns.{marks}
use Rattle.cells.specs.row_sets.Loops.{Forward}
use Rattle.kept_rows.specs.Kept.{in_set, code_count}
use Rattle.kept_rows.proofs.code_marks.Given as goal

abbrev pub invariant-loop-c : goal.invariant-loop-c
invariant-loop-c l = Forward (marks code_count (in_set l.set)) l.initial.table l.c l.table
