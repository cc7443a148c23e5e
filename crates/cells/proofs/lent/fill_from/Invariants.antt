use Rattle.cells.specs.lent.Cells.{Filling}
use Rattle.cells.proofs.lent.fill_from.Given as goal

abbrev pub invariant-loop-i : goal.invariant-loop-i
invariant-loop-i g l = Filling l.value l.initial.out l.n l.i l.out
