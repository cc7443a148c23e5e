use Rattle.cells.specs.row_sets.Columns.{intersection}
use Rattle.cells.specs.row_sets.Loops.{Forward}
use Rattle.selection_laws.specs.marks.Passes.{range_marks}
use Rattle.axis_passes.proofs.mark_sets.filter.Given as goal

abbrev pub invariant-loop-r : goal.invariant-loop-r
invariant-loop-r l = Forward (intersection l.from (range_marks l.low l.high l.codes)) l.initial.out l.r l.out
