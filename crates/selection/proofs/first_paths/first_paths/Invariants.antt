use Rattle.selection.specs.first_paths.Firsts.{FirstsSoFar}
use Rattle.selection.proofs.first_paths.first_paths.Given as goal

abbrev pub invariant-loop-i : goal.invariant-loop-i
invariant-loop-i l = FirstsSoFar l.fn.rows l.fn.paths l.i l.firsts l.marks l.fn.scratch l.scratch
