use Rattle.selection.specs.first_paths.Firsts.{Noting}
use Rattle.selection.proofs.first_paths.note.Given as goal

abbrev pub invariant-loop-r : goal.invariant-loop-r
invariant-loop-r l = Noting l.marks l.place l.initial.firsts l.r l.firsts
