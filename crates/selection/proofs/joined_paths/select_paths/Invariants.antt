use Rattle.selection.specs.joined_paths.Joined.{PathsSoFar}
use Rattle.selection.proofs.joined_paths.select_paths.Given as goal

abbrev pub invariant-loop-i : goal.invariant-loop-i
invariant-loop-i l = PathsSoFar l.fn.rows l.fn.paths l.fn.asked.start l.fn.asked.end l.initial.items l.initial.counts l.initial.marks l.fn.scratch l.i l.n l.items l.counts l.marks l.scratch
