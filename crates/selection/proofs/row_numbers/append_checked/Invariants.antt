use Rattle.selection.specs.row_numbers.Cells.{Appending}
use Rattle.selection.proofs.row_numbers.append_checked.Given as goal

abbrev pub invariant-loop-r : goal.invariant-loop-r
invariant-loop-r l = Appending l.marks l.numbers l.initial.out l.at l.r l.n l.out
